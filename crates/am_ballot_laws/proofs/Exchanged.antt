-- Exchanges with the voter bring a coordinator to the whole list that the best vote shows, and then its ballot ends.
use Rattle.am_fetch_laws.proofs.Words.{◌≡◌, ◌⊎◌, inl, inr, ℕ, zero, suc, ◌+◌, ◌-◌, ◌≤◌, ◌==◌, nat_le, true, List, [], ◌∷◌, length, slice_get, Some, refl, sym, ap, ◌∙◌, subst, arith, nat_tests, has, split_on_bool}
use Rattle.am_fetch_laws.proofs.Words.{Entry, Stamp, stamps_are_equal, Log, top_of_log, log_entry_at, log_image_at, image_of_log, row_of_name, letter_to, Fetch, Piece, Node, Ballot, top, is_member}
use Rattle.am_fetch_laws.proofs.Words.{set_of_one_name, hear_packet, step, piece_packet_of, entries_to_serve, refresh_at_end, end_refresh_rests_with_list, is_unfetchable_view, pieces}
use Rattle.am_base.specs.declared.image.Vote.{Vote}
use Rattle.am_model.specs.Ballots.{decide}
use Rattle.am_model.specs.Emit.{StepResult}
use Rattle.am_base.specs.declared.event.NodeEvent.TheVariants as does
use Rattle.am_base.specs.declared.outcome.Outcome.TheVariants as said
use Rattle.am_base.specs.Founding.{Rules}
use Rattle.std.specs.Prelude.{◌*◌}
use Rattle.std.proofs.lemmas.Bool.{cases_lt}
use Rattle.std.proofs.lemmas.Option.{slice_get_within}
use Rattle.am_fetch_laws.specs.Exchanges.{TwoNodes, hear_letters, exchange, exchanges}
use Rattle.am_fetch_laws.proofs.Asking.{one_name_is_there}
use Rattle.am_fetch_laws.proofs.Exchanged.{leads_on_after_end, AllStand, heard_by, hears_one, served_entries_stand, how_many_are_served}
use Rattle.am_ballot_laws.specs.Fetching.{FetchesFor, with_entry_above}
use Rattle.am_ballot_laws.specs.Following.{BestIs, MayFollow, LooksAtWhole, MayFollowVoter, fetching_ballot, FollowsFurther, ExchangesFollow, ExchangesReachWhole}
use Rattle.am_ballot_laws.proofs.Voting.{coordinates_after_end}
use Rattle.am_ballot_laws.proofs.Fetching.{ballots_fetch, pieces_are_looked_at, voters_serve}
use Rattle.am_ballot_laws.proofs.Following.{Followed, may_be_stored, piece_goes_on, piece_ends}

-- ---- numbers of entries

entry_is_within : (log : Log) (number : ℕ) (e : Entry) → log_entry_at log number ≡ Some e → number ≤ top_of_log log
entry_is_within log zero e there = absurd (cc)
entry_is_within log (suc before) e there = split_on_bool (nat_le log.start before)
    (λ t.
    let get : slice_get log.entries (before - log.start) ≡ Some e = rw t at there in
    let within = slice_get_within log.entries (before - log.start) e get in
    let above : log.start ≤ before = grind (arith, nat_tests) in
    omega arith)
    (λ f. absurd (let none = rw f at there in cc))

-- ---- letters

-- what the voter's Pieces tell
record ToldBy (base from : ℕ) (v : Stamp) (q : Node) : Type 0 where
  base_ : q.core.base ≡ base
  who : q.core.who ≡ from
  promise : q.core.promise ≡ v

-- a fetching ballot is the one that it was
same_ballot : (m : Node) (b : Ballot) (from : ℕ) → FetchesFor m b from → b ≡ fetching_ballot b from (top m + 1)
same_ballot m b from h = λ i. record { stamp = b.stamp; least = b.least; resilience = b.resilience; votes = b.votes; given_up = b.given_up; answer = h.answer i; is_over = h.open_ i }

pieces_follow : (log : Log) (base from : ℕ) (best : Vote) (b : Ballot) (q : Node) (es : List Entry) (m : Node) (s number : ℕ) → ToldBy base from m.core.promise q → s ≡ m.core.who
    → number ≡ top m + 1 → AllStand log number es → MayFollow log base from best m (fetching_ballot b from (top m + 1))
    → (let n = (hear_letters m (pieces q (set_of_one_name s) number es)).node in
    LooksAtWhole log (fetching_ballot b from (top_of_log log)) n ⊎ Followed log base from best b (length es) m n)
unfolding hear_letters pieces AllStand
pieces_follow log base from best b q [] m s number tells mine next stand h = inr (record { more = omega arith; goes_on = h; who = refl; promise = refl })
pieces_follow log base from best b q (e ∷ es) m s number tells mine next stand h =
    let now = fetching_ballot b from (top m + 1) in
    let l = letter_to (set_of_one_name s) (piece_packet_of q number e) in
    let rest = pieces q (set_of_one_name s) (number + 1) es in
    let for : has (set_of_one_name s) m.core.who ≡ true = ap (λ i. has (set_of_one_name i) m.core.who) mine ∙ one_name_is_there m.core.who in
    let there : log_entry_at log (top m + 1) ≡ Some e = ap (log_entry_at log) (let z : top m + 1 ≡ number + 0 = omega arith in z) ∙ stand 0 e refl in
    let x = refresh_at_end (decide (with_entry_above m base e) now).node in
    let is : (hear_packet m (piece_packet_of q number e)).node ≡ x = (λ i. (hear_packet m (Piece (tells.who i) (tells.promise i) (tells.base_ i) (next i) e)).node)
    ∙ pieces_are_looked_at m now from base (top m + 1) e h.fetches (may_be_stored log base from best m now e h there) (h.fit (top m + 1) e there).1 in
    let all : (hear_letters m (l ∷ rest)).node ≡ (hear_letters x rest).node = heard_by m l rest for ∙ ap (λ y. (hear_letters y rest).node) is in
    subst (λ (y : Node). LooksAtWhole log (fetching_ballot b from (top_of_log log)) y ⊎ Followed log base from best b (suc (length es)) m y) (sym all)
    (elim (cases_lt (top m + 1) (top_of_log log)) [
      | inl short ↦
          (let f = piece_goes_on log base from best m now e h there short in
          let more = f.more in
          elim (pieces_follow log base from best b q es x s (number + 1) (record { base_ = tells.base_; who = tells.who; promise = tells.promise ∙ sym f.promise }) (mine ∙ sym f.who) (omega arith)
          (λ k y at. ap (log_entry_at log) (shift number k) ∙ stand (suc k) y at) f.goes_on) [
            | inl whole ↦ inl whole
            | inr g ↦ (let further = g.more in inr (record { more = omega arith; goes_on = g.goes_on; who = g.who ∙ f.who; promise = g.promise ∙ f.promise }))
          ])
      | inr reached ↦
          (let missing = h.missing in
          let last : top m + 1 ≡ top_of_log log = omega arith in
          let ended = piece_ends log base from best m now e h there last in
          inl (none_left es x (λ y at. (let in_ = entry_is_within log (number + 1) y (stand 1 y at) in absurd (omega arith)))
          (subst (λ k. LooksAtWhole log (fetching_ballot b from k) x) last ended)))
    ])
  where
    shift : (number k : ℕ) → number + 1 + k ≡ number + suc k
    shift number k = omega arith

    -- no entry is left
    none_left : (es : List Entry) (x : Node) → ((y : Entry) → slice_get es 0 ≡ Some y → ⊥) → LooksAtWhole log (fetching_ballot b from (top_of_log log)) x
        → LooksAtWhole log (fetching_ballot b from (top_of_log log)) (hear_letters x (pieces q (set_of_one_name s) (number + 1) es)).node
    none_left [] x none h = h
    none_left (y ∷ ys) x none h = absurd (none y refl)

-- the end of a step
follows_after_end : (log : Log) (base from : ℕ) (best : Vote) (m : Node) (b : Ballot) → MayFollow log base from best m b → MayFollow log base from best (refresh_at_end m) b
follows_after_end log base from best m b h =
    let n = refresh_at_end m in
    let r = end_refresh_rests_with_list m in
    let same : top n ≡ top m = ap (λ (l : Log). top_of_log l) r.log in
    let window = ap (λ (y : Rules). y.window) r.rests.rules in
    record {
      fetches = record {
        coordinates = coordinates_after_end m b h.fetches.coordinates;
        answer = h.fetches.answer ∙ ap (λ k. said.Fetching from (k + 1)) (sym same);
        other = ap (λ i. from == i) r.rests.who ∙ h.fetches.other;
      };
      votes = subst (λ i. BestIs i b from best log) (sym r.rests.who) h.votes;
      missing = omega (arith, same, h.missing);
      kept = omega (arith, same, h.kept);
      told_ = ap (λ (l : Log). image_of_log l) r.log ∙ h.told_ ∙ ap (log_image_at log) (sym same);
      fit = λ number y at. ((h.fit number y at).0, ap (λ (v : Stamp). is_unfetchable_view v true y) r.rests.promise ∙ (h.fit number y at).1);
      differ = λ number low high. ap (λ (v : Stamp). stamps_are_equal (log_image_at log number).view v) r.rests.promise ∙ h.differ number low high;
      stays = λ number low high. ap (λ i. (row_of_name (log_image_at log number) i).left) r.rests.who ∙ h.stays number (omega (arith, same, low)) high;
      trimmed = omega (arith, r.rests.taken, h.trimmed);
      low = omega (arith, same, h.low);
      room = omega (arith, h.room, window);
    }

-- ---- an exchange

-- both nodes after it
exchange_is : (p m : Node) (best : Vote) (b : Ballot) → MayFollowVoter p m best b → exchange (record { sequencer = p; member_ = m })
    ≡ record { sequencer = refresh_at_end p; member_ = (hear_letters (refresh_at_end m) (pieces (refresh_at_end p) (set_of_one_name m.core.who) (top m + 1) (entries_to_serve p (top m)))).node }
exchange_is p m best b h =
    let asked = ballots_fetch m b p.core.who h.list.fetches in
    let v = m.core.promise in
    let low = h.list.low in
    let missing = h.list.missing in
    let rises = (end_refresh_rests_with_list p).rests.base in
    let served = voters_serve p v (top m) h.voter (omega arith) (omega arith) in
    let f = hear_packet p (Fetch m.core.who v (top m)) in
    let by : hear_packet p (Fetch v.by v (top m)) ≡ f = ap (λ i. hear_packet p (Fetch i v (top m))) h.list.fetches.own in
    let node : f.node ≡ refresh_at_end p = sym (ap (λ (s : StepResult). s.node) by) ∙ served.node in
    let letters : f.letters ≡ pieces (refresh_at_end p) (set_of_one_name m.core.who) (top m + 1) (entries_to_serve p (top m)) = sym (ap (λ (s : StepResult). s.letters) by) ∙ served.letters
    ∙ (λ i. pieces (served.node i) (set_of_one_name (h.list.fetches.own i)) (top m + 1) (entries_to_serve p (top m))) in
    let l = letter_to (set_of_one_name p.core.who) (Fetch m.core.who v (top m)) in
    let heard : hear_letters p (step m does.Tick).letters ≡ record { node = f.node; letters = f.letters } = ap (hear_letters p) asked.letters ∙ hears_one p l (one_name_is_there p.core.who) in
    (λ i. record { sequencer = (heard i).node; member_ = (hear_letters (asked.node i) (heard i).letters).node })
    ∙ (λ i. record { sequencer = node i; member_ = (hear_letters (refresh_at_end m) (letters i)).node })

pub exchanges_follow : ExchangesFollow
exchanges_follow t best b h =
    let p = t.sequencer in
    let m = t.member_ in
    let n = refresh_at_end p in
    let x = refresh_at_end m in
    let from = p.core.who in
    let log = p.core.log in
    let base = n.core.base in
    let r = end_refresh_rests_with_list m in
    let rp = end_refresh_rests_with_list p in
    let on = leads_on_after_end p in
    let same : top x ≡ top m = ap (λ (l : Log). top_of_log l) r.log in
    let first = follows_after_end log base from best m b h.list in
    let start : MayFollow log base from best x (fetching_ballot b from (top x + 1)) = subst (λ c. MayFollow log base from best x c) (same_ballot x b from first.fetches) first in
    let es = entries_to_serve p (top m) in
    let kept = h.list.kept in
    let missing = h.list.missing in
    let many = how_many_are_served p (top m) kept in
    let tells : ToldBy base from x.core.promise n = record { base_ = refl; who = rp.rests.who; promise = rp.rests.promise ∙ h.voter.promised ∙ sym r.rests.promise } in
    let both = pieces_follow log base from best b n es x m.core.who (top m + 1) tells (sym r.rests.who) (omega arith) (served_entries_stand p (top m) kept) start in
    let is = exchange_is p m best b h in
    subst (λ (u : TwoNodes). LooksAtWhole log (fetching_ballot b from (top p)) u.member_ ⊎ FollowsFurther m u best b) (sym is)
    (elim both [
      | inl whole ↦ inl whole
      | inr f ↦
          (let more = f.more in
          let short = f.goes_on.missing in
          let y = (hear_letters x (pieces n (set_of_one_name m.core.who) (top m + 1) es)).node in
          inr (record {
            more = omega arith;
            goes_on = record {
              voter = record {
                listed = ap is_member rp.rests.status ∙ h.voter.listed;
                promised = rp.rests.promise ∙ h.voter.promised ∙ sym (f.promise ∙ r.rests.promise);
                other = (λ i. ((f.promise ∙ r.rests.promise) i).by == rp.rests.who i) ∙ h.voter.other;
                below = (λ i. stamps_are_equal (rp.rests.view i) ((f.promise ∙ r.rests.promise) i)) ∙ h.voter.below;
              };
              list = subst (λ i. MayFollow n.core.log (refresh_at_end n).core.base i best y (fetching_ballot b i (top y + 1))) (sym rp.rests.who)
                  (subst (λ (g : Log). MayFollow g (refresh_at_end n).core.base from best y (fetching_ballot b from (top y + 1))) (sym on.log)
                  (subst (λ k. MayFollow log k from best y (fetching_ballot b from (top y + 1))) (sym on.base) f.goes_on));
            };
          }))
    ])

-- ---- all of them

-- what the voter keeps meanwhile
pub record RestsAsVoter (p q : Node) : Type 0 where
  pub promise : q.core.promise ≡ p.core.promise
  pub status : q.status ≡ p.status
  pub leaving : q.leaving ≡ p.leaving

voter_rests : (t : TwoNodes) (best : Vote) (b : Ballot) → MayFollowVoter t.sequencer t.member_ best b → RestsAsVoter t.sequencer (exchange t).sequencer
voter_rests t best b h =
    let is = ap (λ (x : TwoNodes). x.sequencer) (exchange_is t.sequencer t.member_ best b h) in
    let r = end_refresh_rests_with_list t.sequencer in
    record {
      promise = ap (λ (n : Node). n.core.promise) is ∙ r.rests.promise;
      status = ap (λ (n : Node). n.status) is ∙ r.rests.status;
      leaving = ap (λ (n : Node). n.leaving) is ∙ r.rests.leaving;
    }

pub exchanges_reach_whole_of_voter : (t : TwoNodes) (many : ℕ) (best : Vote) (b : Ballot) → MayFollowVoter t.sequencer t.member_ best b → top t.sequencer ≤ top t.member_ + 8 * many
    → (n : ℕ) × (n ≤ many) × LooksAtWhole t.sequencer.core.log (fetching_ballot b t.sequencer.core.who (top t.sequencer)) (exchanges n t).member_
    × RestsAsVoter t.sequencer (exchanges n t).sequencer
unfolding exchanges
exchanges_reach_whole_of_voter t zero best b h far = (let missing = h.list.missing in absurd (omega arith))
exchanges_reach_whole_of_voter t (suc many) best b h far = elim (exchanges_follow t best b h) [
  | inl whole ↦ (1, omega arith, whole, voter_rests t best b h)
  | inr f ↦
      (let u = exchange t in
      let is = ap (λ (x : TwoNodes). x.sequencer) (exchange_is t.sequencer t.member_ best b h) in
      let rp = end_refresh_rests_with_list t.sequencer in
      let log : u.sequencer.core.log ≡ t.sequencer.core.log = ap (λ (n : Node). n.core.log) is ∙ rp.log in
      let who : u.sequencer.core.who ≡ t.sequencer.core.who = ap (λ (n : Node). n.core.who) is ∙ rp.rests.who in
      let long = ap (λ (l : Log). top_of_log l) log in
      let more = f.more in
      let first = voter_rests t best b h in
      let rest = exchanges_reach_whole_of_voter u many best (fetching_ballot b u.sequencer.core.who (top u.member_ + 1)) f.goes_on (omega arith) in
      let then_ = rest.3 in (
        suc rest.0,
        omega arith,
        subst (λ i. LooksAtWhole t.sequencer.core.log (fetching_ballot b i (top t.sequencer)) (exchanges rest.0 u).member_) who
            (subst (λ (l : Log). LooksAtWhole l (fetching_ballot b u.sequencer.core.who (top_of_log l)) (exchanges rest.0 u).member_) log rest.2),
        record { promise = then_.promise ∙ first.promise; status = then_.status ∙ first.status; leaving = then_.leaving ∙ first.leaving },
      ))
]

pub exchanges_reach_whole : ExchangesReachWhole
exchanges_reach_whole t many best b h far = let r = exchanges_reach_whole_of_voter t many best b h far in (r.0, r.1, r.2)
