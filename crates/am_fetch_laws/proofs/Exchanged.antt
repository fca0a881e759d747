-- What an exchange brings.
use Rattle.am_fetch_laws.proofs.Words.{◌≡◌, ◌⊎◌, inl, inr, ℕ, zero, suc, ◌+◌, ◌-◌, ◌<◌, ◌≤◌, ◌==◌, min, nat_lt, Bool, true, false, List, [], ◌∷◌, ◌++◌, length, drop}
use Rattle.am_fetch_laws.proofs.Words.{slice_get, Some, refl, sym, ap, ◌∙◌, subst, arith, length-take, length-drop, nat_tests, has, split_on_bool, both_of_and, Entry, Stamp, stamps_are_equal, Image}
use Rattle.am_fetch_laws.proofs.Words.{Log, top_of_log, log_entry_at, log_image_at, image_of_log, row_of_name, fits, after, Letter, letter_to, is_for, Fetch, Piece, Accept, Node, top, view, image_of_node}
use Rattle.am_fetch_laws.proofs.Words.{set_of_one_name, trim_node_up_to, is_member, is_sequencer, acts_in_its_view, finish, step, hear_packet, hear_row, piece_row, piece_packet_of, accept_packet_of}
use Rattle.am_fetch_laws.proofs.Words.{entries_to_serve, refresh, refresh_at_end, is_unfetchable_view, is_unfinished_ballot, member_hears_other, end_refresh_rests_with_list, stamp_eq_gives_equality, stamp_eq_of_itself, image_of_pushed_entry, pieces}
use Rattle.am_fetch_laws.proofs.Words.{IsBehind, MayBeStored, ServesPieces}
use Rattle.am_fetch_laws.specs.Fetching.{IsAcceptAtMost}
use Rattle.am_fetch_laws.specs.Exchanges.{HasEightMore, TwoNodes, hear_letters, exchange, exchanges, MayCatchUpWith, MayCatchUp, ExchangesBringEntries, ExchangesReachView}
use Rattle.am_base.specs.declared.event.NodeEvent.TheVariants as does
use Rattle.am_base.specs.Founding.{Rules}
use Rattle.std.proofs.Common.{◌*◌}
use Rattle.std.proofs.lemmas.Bool.{cases_lt, eqb-true}
use Rattle.am_fetch_laws.proofs.Words.{length-append}
use Rattle.am_node_defs.proofs.Ends.{image_at_next_number}
use Rattle.am_step_laws.proofs.Rests.{acts_after_rest, with_sends_of, settle_changes_only_sends}
use Rattle.am_model_laws.proofs.Held.{core_of_refresh_at_end}
use Rattle.am_model_laws.proofs.Refreshes.{refresh_of_refreshed}
use Rattle.am_model.specs.Refresh.{refresh_as_sequencer, settle_waiting_send}
use Rattle.am_node_defs.proofs.Folds.{slice_get-drop}
use Rattle.am_node_defs.specs.Cores.{CoreState}
use Rattle.std.proofs.Common.{append-nil}
use Rattle.am_fetch_laws.proofs.Words.{is_sequencer_after_rest}
use Rattle.am_step_laws.proofs.Items.{slice_get_of_take}
use Rattle.am_fetch_laws.proofs.Words.{nat_le}
use Rattle.am_fetch_laws.proofs.Asking.{one_name_is_there, behind_acts_not, members_fetch}
use Rattle.am_fetch_laws.proofs.Storing.{with_fetched_entry, piece_leaves}
use Rattle.am_fetch_laws.proofs.Serving.{fetches_are_served}

-- ---- a member that acts in a view goes on so

-- it acts in a list's view, tells what that list tells up to where its own goes, and has taken all up to a base
pub record ActsAlong (log : Log) (base : ℕ) (m : Node) : Type 0 where
  pub acts : acts_in_its_view m ≡ true
  pub view_ : view m ≡ (image_of_log log).view
  pub low : log.start ≤ top m
  pub within : top m ≤ top_of_log log
  pub told_ : image_of_node m ≡ log_image_at log (top m)
  pub taken : base ≤ m.core.taken

-- so it does after the end of a step
acting_after_end : (log : Log) (base : ℕ) (m : Node) → ActsAlong log base m → ActsAlong log base (refresh_at_end m)
acting_after_end log base m h =
    let r = end_refresh_rests_with_list m in
    let same : top (refresh_at_end m) ≡ top m = ap (λ (l : Log). top_of_log l) r.log in
    record {
      acts = acts_after_rest r.rests ∙ h.acts;
      view_ = r.rests.view ∙ h.view_;
      low = omega (arith, same, h.low);
      within = omega (arith, same, h.within);
      told_ = ap (λ (l : Log). image_of_log l) r.log ∙ h.told_ ∙ ap (log_image_at log) (sym same);
      taken = omega (arith, r.rests.taken, h.taken);
    }

-- it ignores Pieces of its view
pub acting_ignores_piece : (m : Node) (s : ℕ) (base number : ℕ) (e : Entry) → (hear_packet m (Piece s (view m) base number e)).node ≡ refresh_at_end m
unfolding hear_packet hear_row piece_row finish
acting_ignores_piece m s base number e =
    let same = stamp_eq_of_itself (view m) in
    split_on_bool (stamps_are_equal (view m) m.core.promise)
    (λ t. split_on_bool (member_hears_other m s) (λ u. rw (u, t, same) refl) (λ u. rw u refl))
    (λ f. split_on_bool (member_hears_other m s) (λ u. rw (u, f) refl) (λ u. rw u refl))

-- ---- a Piece that comes next

-- one entry more, or it has come to act
record Brought (log : Log) (base many : ℕ) (m n : Node) : Type 0 where
  more : top n ≡ top m + many
  list : MayCatchUpWith log base n
  who : n.core.who ≡ m.core.who
  promise : n.core.promise ≡ m.core.promise

may_be_stored : (log : Log) (base : ℕ) (m : Node) (e : Entry) → MayCatchUpWith log base m → log_entry_at log (top m + 1) ≡ Some e → MayBeStored m base (top m + 1) e
may_be_stored log base m e h there =
    let missing = h.missing in
    let room = h.room in
    let before : top m + 1 - 1 ≡ top m = omega arith in
    record {
      next = refl;
      stays = ap (λ (i : Image). nat_lt 0 (row_of_name i m.core.who).left) h.told_ ∙ ap (nat_lt 0) (h.stays (top m) (omega arith) missing);
      taken = h.trimmed;
      fits = ap (λ (i : Image). fits i e) h.told_ ∙ ap (λ k. fits (log_image_at log k) e) (sym before) ∙ (h.fit (top m + 1) e (omega arith) there).0;
      within = omega arith;
    }

may_be_fetched : (log : Log) (base : ℕ) (m : Node) (e : Entry) → MayCatchUpWith log base m → log_entry_at log (top m + 1) ≡ Some e → is_unfetchable_view m.core.promise false e ≡ false
may_be_fetched log base m e h there =
    let missing = h.missing in
    ap (λ (v : Stamp). is_unfetchable_view v false e) h.promised ∙ (h.fit (top m + 1) e (omega arith) there).1

stored_piece_brings : (log : Log) (base : ℕ) (m : Node) (e : Entry) → MayCatchUpWith log base m → log_entry_at log (top m + 1) ≡ Some e
    → (let n = refresh_at_end (with_fetched_entry m base e) in ActsAlong log base n ⊎ Brought log base 1 m n)
stored_piece_brings log base m e h there =
    let p = with_fetched_entry m base e in
    let n = refresh_at_end p in
    let r = end_refresh_rests_with_list p in
    let at = (image_of_log log).view_number in
    let told : image_of_node n ≡ log_image_at log (top m + 1) = ap (λ (l : Log). image_of_log l) r.log ∙ image_of_pushed_entry (trim_node_up_to m base) e
    ∙ ap (λ (i : Image). after i (top m + 1) e) h.told_ ∙ sym (image_at_next_number log (top m) e h.kept there) in
    let longer : top n ≡ top m + 1 = ap (λ (l : Log). top_of_log l) r.log ∙ longer_by_one m base e in
    let listed : is_member n.status ≡ true = ap is_member r.rests.status ∙ h.behind.listed in
    let promised : n.core.promise ≡ (image_of_log log).view = r.rests.promise ∙ h.promised in
    split_on_bool (stamps_are_equal (view n) n.core.promise)
    (λ t. inl (
    let missing = h.missing in
    let reached = h.reached in
    let kept = h.kept in
    let more = r.rests.taken in
    let trimmed = h.trimmed in
    let same = stamp_eq_gives_equality (view n) n.core.promise t in
    let equal : stamps_are_equal n.core.promise (view n) ≡ true = ap (λ (v : Stamp). stamps_are_equal n.core.promise v) same ∙ stamp_eq_of_itself n.core.promise in
    record {
      acts = rw (listed, equal) refl;
      view_ = same ∙ promised;
      low = omega arith;
      within = omega arith;
      told_ = told ∙ ap (log_image_at log) (sym longer);
      taken = omega arith;
    }))
    (λ f.
    let missing = h.missing in
    let short : top m + 1 < at = elim (cases_lt (top m + 1) at) [
      | inl below ↦ below
      | inr reached ↦ absurd (
          let last : top m + 1 ≡ at = omega arith in
          let viewed : view n ≡ n.core.promise = ap (λ (i : Image). i.view) told ∙ ap (λ k. (log_image_at log k).view) last ∙ h.viewed ∙ sym promised in
          let equal : stamps_are_equal (view n) n.core.promise ≡ true = ap (λ (v : Stamp). stamps_are_equal v n.core.promise) viewed ∙ stamp_eq_of_itself n.core.promise in
          cc)
    ] in
    let taken = r.rests.taken in
    let trimmed = h.trimmed in
    let low = h.low in
    let room = h.room in
    let window = ap (λ (x : Rules). x.window) r.rests.rules in
    inr (record {
      more = longer;
      who = r.rests.who;
      promise = r.rests.promise;
      list = record {
        behind = record {
          listed = listed;
          below = f;
          other = (λ i. (r.rests.promise i).by == r.rests.who i) ∙ h.behind.other;
          no_ballot = ap is_unfinished_ballot r.rests.ballot ∙ h.behind.no_ballot;
        };
        promised = promised;
        missing = omega arith;
        reached = h.reached;
        kept = (let kept = h.kept in omega arith);
        told_ = told ∙ ap (log_image_at log) (sym longer);
        viewed = h.viewed;
        fit = h.fit;
        stays = λ number above below. ap (λ i. (row_of_name (log_image_at log number) i).left) r.rests.who ∙ h.stays number (omega arith) below;
        trimmed = omega arith;
        low = omega arith;
        room = omega arith;
      };
    }))
  where
    longer_by_one : (m : Node) (base : ℕ) (e : Entry) → top (with_fetched_entry m base e) ≡ top m + 1
    longer_by_one m base e = simp length-append (omega arith)

-- ---- all that are sent

-- so many entries stand in a list, one after the other
unfoldable pub AllStand : Log → ℕ → List Entry → Type 0
AllStand log number es = (k : ℕ) (e : Entry) → slice_get es k ≡ Some e → log_entry_at log (number + k) ≡ Some e

-- what the sequencer's letters tell of it
record TellsOf (log : Log) (base : ℕ) (n : Node) : Type 0 where
  base_ : n.core.base ≡ base
  promise : n.core.promise ≡ (image_of_log log).view
  own : (image_of_log log).view.by ≡ n.core.who

pub heard_by : (m : Node) (l : Letter) (ls : List Letter) → is_for l m.core.who ≡ true → (hear_letters m (l ∷ ls)).node ≡ (hear_letters (hear_packet m l.packet).node ls).node
unfolding hear_letters
heard_by m l ls t = rw t refl

pieces_leave_acting : (log : Log) (base : ℕ) (q : Node) (es : List Entry) (m : Node) (s number : ℕ) → TellsOf log base q → s ≡ m.core.who → ActsAlong log base m
    → ActsAlong log base (hear_letters m (pieces q (set_of_one_name s) number es)).node
unfolding hear_letters pieces
pieces_leave_acting log base q [] m s number tells mine h = h
pieces_leave_acting log base q (e ∷ es) m s number tells mine h =
    let l = letter_to (set_of_one_name s) (piece_packet_of q number e) in
    let n = refresh_at_end m in
    let for : has (set_of_one_name s) m.core.who ≡ true = ap (λ i. has (set_of_one_name i) m.core.who) mine ∙ one_name_is_there m.core.who in
    let viewed : q.core.promise ≡ view m = tells.promise ∙ sym h.view_ in
    let is : (hear_packet m (piece_packet_of q number e)).node ≡ n = ap (λ (v : Stamp). (hear_packet m (Piece q.core.who v q.core.base number e)).node) viewed
    ∙ acting_ignores_piece m q.core.who q.core.base number e in
    let r = end_refresh_rests_with_list m in
    subst (λ (x : Node). ActsAlong log base x)
    (sym (heard_by m l (pieces q (set_of_one_name s) (number + 1) es) for ∙ ap (λ x. (hear_letters x (pieces q (set_of_one_name s) (number + 1) es)).node) is))
    (pieces_leave_acting log base q es n s (number + 1) tells (mine ∙ sym r.rests.who) (acting_after_end log base m h))

pieces_bring : (log : Log) (base : ℕ) (q : Node) (es : List Entry) (m : Node) (s number : ℕ) → TellsOf log base q → s ≡ m.core.who → number ≡ top m + 1 → AllStand log number es
    → MayCatchUpWith log base m
    → (let n = (hear_letters m (pieces q (set_of_one_name s) number es)).node in ActsAlong log base n ⊎ Brought log base (length es) m n)
unfolding hear_letters pieces AllStand
pieces_bring log base q [] m s number tells mine next stand h = inr (record { more = omega arith; list = h; who = refl; promise = refl })
pieces_bring log base q (e ∷ es) m s number tells mine next stand h =
    let l = letter_to (set_of_one_name s) (piece_packet_of q number e) in
    let rest = pieces q (set_of_one_name s) (number + 1) es in
    let for : has (set_of_one_name s) m.core.who ≡ true = ap (λ i. has (set_of_one_name i) m.core.who) mine ∙ one_name_is_there m.core.who in
    let there : log_entry_at log (top m + 1) ≡ Some e = ap (log_entry_at log) (let z : top m + 1 ≡ number + 0 = omega arith in z) ∙ stand 0 e refl in
    let x = refresh_at_end (with_fetched_entry m base e) in
    let from : q.core.who ≡ m.core.promise.by = sym tells.own ∙ ap (λ (v : Stamp). v.by) (sym h.promised) in
    let stamp : q.core.promise ≡ m.core.promise = tells.promise ∙ sym h.promised in
    let is : (hear_packet m (piece_packet_of q number e)).node ≡ x = (λ i. (hear_packet m (Piece (from i) (stamp i) (tells.base_ i) (next i) e)).node)
    ∙ piece_leaves m base (top m + 1) e h.behind (may_be_stored log base m e h there) (may_be_fetched log base m e h there) in
    let all : (hear_letters m (l ∷ rest)).node ≡ (hear_letters x rest).node = heard_by m l rest for ∙ ap (λ y. (hear_letters y rest).node) is in
    subst (λ (y : Node). ActsAlong log base y ⊎ Brought log base (suc (length es)) m y) (sym all)
    (elim (stored_piece_brings log base m e h there) [
      | inl acts ↦ inl (pieces_leave_acting log base q es x s (number + 1) tells (mine ∙ sym (end_refresh_rests_with_list (with_fetched_entry m base e)).rests.who) acts)
      | inr b ↦ (let more = b.more in
          elim (pieces_bring log base q es x s (number + 1) tells (mine ∙ sym b.who) (omega arith) (λ k y at. ap (log_entry_at log) (shift number k) ∙ stand (suc k) y at) b.list) [
            | inl acts ↦ inl acts
            | inr c ↦ (let further = c.more in inr (record { more = omega arith; list = c.list; who = c.who ∙ b.who; promise = c.promise ∙ b.promise }))
          ])
    ])
  where
    shift : (number k : ℕ) → number + 1 + k ≡ number + suc k
    shift number k = omega arith

-- an Accept is nothing to it
accept_is_ignored : (m : Node) (s : ℕ) (v : Stamp) (base acc high : ℕ) (poll : Bool) → IsBehind m → (hear_packet m (Accept s v base acc high poll)).node ≡ refresh_at_end m
unfolding hear_packet hear_row finish
accept_is_ignored m s v base acc high poll h =
    let acts = behind_acts_not m h in
    split_on_bool (member_hears_other m s) (λ t. rw (t, acts) refl) (λ f. rw f refl)

-- the end of a step
catching_after_end : (log : Log) (base : ℕ) (m : Node) → MayCatchUpWith log base m → Brought log base 0 m (refresh_at_end m)
catching_after_end log base m h =
    let n = refresh_at_end m in
    let r = end_refresh_rests_with_list m in
    let same : top n ≡ top m = ap (λ (l : Log). top_of_log l) r.log in
    let taken = r.rests.taken in
    let trimmed = h.trimmed in
    let window = ap (λ (x : Rules). x.window) r.rests.rules in
    record {
      more = omega arith;
      who = r.rests.who;
      promise = r.rests.promise;
      list = record {
        behind = record {
          listed = ap is_member r.rests.status ∙ h.behind.listed;
          below = (λ i. stamps_are_equal (r.rests.view i) (r.rests.promise i)) ∙ h.behind.below;
          other = (λ i. (r.rests.promise i).by == r.rests.who i) ∙ h.behind.other;
          no_ballot = ap is_unfinished_ballot r.rests.ballot ∙ h.behind.no_ballot;
        };
        promised = r.rests.promise ∙ h.promised;
        missing = (let missing = h.missing in omega arith);
        reached = h.reached;
        kept = (let kept = h.kept in omega arith);
        told_ = ap (λ (l : Log). image_of_log l) r.log ∙ h.told_ ∙ ap (log_image_at log) (sym same);
        viewed = h.viewed;
        fit = h.fit;
        stays = λ number above below. ap (λ i. (row_of_name (log_image_at log number) i).left) r.rests.who ∙ h.stays number (omega arith) below;
        trimmed = omega arith;
        low = (let low = h.low in omega arith);
        room = (let room = h.room in omega arith);
      };
    }

-- who isn't meant doesn't hear
passed_over : (m : Node) (l : Letter) (ls : List Letter) → is_for l m.core.who ≡ false → (hear_letters m (l ∷ ls)).node ≡ (hear_letters m ls).node
unfolding hear_letters
passed_over m l ls f = rw f refl

-- what may come before the Pieces changes nothing
first_is_ignored : (log : Log) (base : ℕ) (m q : Node) (first rest : List Letter) → IsAcceptAtMost q first → MayCatchUpWith log base m
    → (x : Node) × (Brought log base 0 m x) × ((hear_letters m (first ++ rest)).node ≡ (hear_letters x rest).node)
first_is_ignored log base m q first rest (inl none) h = (
  m,
  record { more = omega arith; list = h; who = refl; promise = refl },
  ap (λ ls. (hear_letters m (ls ++ rest)).node) none,
)
first_is_ignored log base m q first rest (inr (to, polls, is)) h =
    let l = letter_to to (accept_packet_of q polls) in
    split_on_bool (is_for l m.core.who)
    (λ t. (
      refresh_at_end m,
      catching_after_end log base m h,
      ap (λ ls. (hear_letters m (ls ++ rest)).node) is ∙ heard_by m l rest t
          ∙ ap (λ y. (hear_letters y rest).node) (accept_is_ignored m q.core.who q.core.promise q.core.base q.core.acc (top q) polls h.behind),
    ))
    (λ f. (
      m,
      record { more = omega arith; list = h; who = refl; promise = refl },
      ap (λ ls. (hear_letters m (ls ++ rest)).node) is ∙ passed_over m l rest f,
    ))

-- ---- the sequencer

-- the entries that it serves stand in its list
pub served_entries_stand : (q : Node) (stored : ℕ) → q.core.log.start ≤ stored → AllStand q.core.log (stored + 1) (entries_to_serve q stored)
unfolding AllStand
served_entries_stand q stored low k e at =
    let log = q.core.log in
    let there : slice_get log.entries (stored - log.start + k) ≡ Some e = sym (slice_get-drop (stored - log.start) k log.entries) ∙ slice_get_of_take 8 (drop (stored - log.start) log.entries) k e at in
    let number : stored + 1 + k ≡ suc (stored + k) = omega arith in
    let here : stored + k - log.start ≡ stored - log.start + k = omega arith in
    let above : nat_le log.start (stored + k) ≡ true = grind (arith, nat_tests) in
    ap (log_entry_at log) number ∙ rw above (ap (slice_get log.entries) here ∙ there)

pub how_many_are_served : (q : Node) (stored : ℕ) → q.core.log.start ≤ stored → length (entries_to_serve q stored) ≡ min 8 (top q - stored)
how_many_are_served q stored low =
    let a = length-take 8 (drop (stored - q.core.log.start) q.core.log.entries) in
    let b = length-drop (stored - q.core.log.start) q.core.log.entries in
    omega arith

-- a refresh doesn't see that a send was settled
refresh_after_settling : (m x : Node) → (refresh (with_sends_of m x)).core ≡ (refresh m).core
unfolding refresh refresh_as_sequencer
refresh_after_settling m x = split_on_bool (is_sequencer m) (λ t. rw t refl) (λ f. rw f refl)

refresh_after_end : (q : Node) → (refresh (refresh_at_end q)).core ≡ (refresh q).core
unfolding refresh_at_end
refresh_after_end q = ap (λ (x : Node). (refresh x).core) (settle_changes_only_sends (refresh q)) ∙ refresh_after_settling (refresh q) (settle_waiting_send (refresh q))
    ∙ ap (λ (x : Node). x.core) (refresh_of_refreshed q)

-- so a second end of a step trims no more
core_after_second_end : (q : Node) → (refresh_at_end (refresh_at_end q)).core ≡ (refresh_at_end q).core
core_after_second_end q = core_of_refresh_at_end (refresh_at_end q) ∙ refresh_after_end q ∙ sym (core_of_refresh_at_end q)

-- ---- an exchange

differs_either_way : (a b : ℕ) → (a == b) ≡ false → (b == a) ≡ false
differs_either_way a b f = grind (arith, nat_tests)

pub hears_one : (q : Node) (l : Letter) → is_for l q.core.who ≡ true
    → hear_letters q (l ∷ []) ≡ record { node = (hear_packet q l.packet).node; letters = (hear_packet q l.packet).letters }
unfolding hear_letters
hears_one q l t = rw t (λ i. record { node = (hear_packet q l.packet).node; letters = append-nil (hear_packet q l.packet).letters i })

-- the sequencer serves what the member asks for
served_by : (q m : Node) → MayCatchUp q m → ServesPieces q m.core.who (top m) (hear_packet q (Fetch m.core.who (view q) (top m)))
served_by q m h =
    let list = h.list in
    let both = both_of_and (acts_in_its_view q) ((view q).by == q.core.who) h.leads in
    let own : (view q).by ≡ q.core.who = eqb-true (view q).by q.core.who both.1 in
    let by : m.core.promise.by ≡ q.core.who = ap (λ (v : Stamp). v.by) list.promised ∙ own in
    let other : (m.core.who == q.core.who) ≡ false = ap (λ i. m.core.who == i) (sym by) ∙ differs_either_way m.core.promise.by m.core.who list.behind.other in
    let rises = (end_refresh_rests_with_list q).rests.base in
    let low = list.low in
    let missing = list.missing in
    let reached = list.reached in
    fetches_are_served q m.core.who (top m) h.leads other (omega arith) (omega arith)

-- both nodes after an exchange
exchange_is : (q m : Node) → MayCatchUp q m → (let s = hear_packet q (Fetch m.core.who (view q) (top m)) in
    exchange (record { sequencer = q; member_ = m }) ≡ record { sequencer = s.node; member_ = (hear_letters (refresh_at_end m) s.letters).node })
exchange_is q m h =
    let list = h.list in
    let s = hear_packet q (Fetch m.core.who (view q) (top m)) in
    let asked = members_fetch m list.behind in
    let both = both_of_and (acts_in_its_view q) ((view q).by == q.core.who) h.leads in
    let own : (view q).by ≡ q.core.who = eqb-true (view q).by q.core.who both.1 in
    let by : m.core.promise.by ≡ q.core.who = ap (λ (v : Stamp). v.by) list.promised ∙ own in
    let l = letter_to (set_of_one_name m.core.promise.by) (Fetch m.core.who (view q) (top m)) in
    let for : has (set_of_one_name m.core.promise.by) q.core.who ≡ true = ap (λ i. has (set_of_one_name i) q.core.who) by ∙ one_name_is_there q.core.who in
    let heard : hear_letters q (step m does.Tick).letters ≡ record { node = s.node; letters = s.letters } =
    ap (hear_letters q) (asked.letters ∙ ap (λ (v : Stamp). letter_to (set_of_one_name m.core.promise.by) (Fetch m.core.who v (top m)) ∷ []) list.promised) ∙ hears_one q l for in
    λ i. record { sequencer = (heard i).node; member_ = (hear_letters (asked.node i) (heard i).letters).node }

exchange_brings : (q m : Node) → MayCatchUp q m → (let n = refresh_at_end q in
    let y = (exchange (record { sequencer = q; member_ = m })).member_ in
    ActsAlong q.core.log n.core.base y ⊎ Brought q.core.log n.core.base (min 8 (top q - top m)) m y)
exchange_brings q m h =
    let log = q.core.log in
    let n = refresh_at_end q in
    let base = n.core.base in
    let list = h.list in
    let x = refresh_at_end m in
    let es = entries_to_serve q (top m) in
    let to = set_of_one_name m.core.who in
    let s = hear_packet q (Fetch m.core.who (view q) (top m)) in
    let served = served_by q m h in
    let rested = catching_after_end log base m list in
    let accept : IsAcceptAtMost n served.first = subst (λ (y : Node). IsAcceptAtMost y served.first) served.node served.accept in
    let first = first_is_ignored log base x n served.first (pieces n to (top m + 1) es) accept rested.list in
    let letters : s.letters ≡ served.first ++ pieces n to (top m + 1) es = served.letters ∙ ap (λ (y : Node). served.first ++ pieces y to (top m + 1) es) served.node in
    let all : (exchange (record { sequencer = q; member_ = m })).member_ ≡ (hear_letters first.0 (pieces n to (top m + 1) es)).node =
    ap (λ (t : TwoNodes). t.member_) (exchange_is q m h) ∙ ap (λ ls. (hear_letters x ls).node) letters ∙ first.2 in
    let both = both_of_and (acts_in_its_view q) ((view q).by == q.core.who) h.leads in
    let acts = both_of_and (is_member q.status) _ both.0 in
    let r = end_refresh_rests_with_list q in
    let tells : TellsOf log base n = record {
      base_ = refl;
      promise = r.rests.promise ∙ stamp_eq_gives_equality q.core.promise (view q) acts.1;
      own = eqb-true (view q).by q.core.who both.1 ∙ sym r.rests.who;
    } in
    let more = rested.more in
    let none = first.1.more in
    let kept = list.kept in
    let many = how_many_are_served q (top m) kept in
    subst (λ (y : Node). ActsAlong log base y ⊎ Brought log base (min 8 (top q - top m)) m y) (sym all)
    (elim (pieces_bring log base n es first.0 m.core.who (top m + 1) tells (sym (first.1.who ∙ rested.who)) (omega arith) (served_entries_stand q (top m) kept) first.1.list) [
      | inl acts ↦ inl acts
      | inr b ↦ (let further = b.more in
          inr (record { more = omega arith; list = b.list; who = b.who ∙ first.1.who ∙ rested.who; promise = b.promise ∙ first.1.promise ∙ rested.promise }))
    ])

-- ---- the claims

-- a sequencer that has the same list, and trims as much at the end of a step
pub record LeadsOn (q n : Node) : Type 0 where
  pub leads : is_sequencer n ≡ is_sequencer q
  pub log : n.core.log ≡ q.core.log
  pub acc : q.core.acc ≤ n.core.acc
  pub taken : q.core.taken ≤ n.core.taken
  pub base : (refresh_at_end n).core.base ≡ (refresh_at_end q).core.base

pub leads_on_after_end : (q : Node) → LeadsOn q (refresh_at_end q)
leads_on_after_end q =
    let r = end_refresh_rests_with_list q in
    record {
      leads = is_sequencer_after_rest r.rests;
      log = r.log;
      acc = r.rests.acc;
      taken = r.rests.taken;
      base = ap (λ (c : CoreState). c.base) (core_after_second_end q);
    }

pub leads_on_in_turn : {a b c : Node} → LeadsOn a b → LeadsOn b c → LeadsOn a c
leads_on_in_turn h k =
    let a = h.acc in
    let b = k.acc in
    let d = h.taken in
    let e = k.taken in
    record { leads = k.leads ∙ h.leads; log = k.log ∙ h.log; acc = omega arith; taken = omega arith; base = k.base ∙ h.base }

-- who acts along the one's list acts along the other's
abbrev AlongEndOf : Node → Node → Type 0
AlongEndOf q m = ActsAlong q.core.log (refresh_at_end q).core.base m

pub along_same_lead : (q n m : Node) → LeadsOn q n → AlongEndOf n m → AlongEndOf q m
along_same_lead q n m k h = subst (λ (l : Log). ActsAlong l (refresh_at_end q).core.base m) k.log (subst (λ base. ActsAlong n.core.log base m) k.base h)

-- who may catch up with the one may catch up with the other
pub may_catch_up_with_same_lead : (q n m : Node) → LeadsOn q n → MayCatchUp q m → MayCatchUp n m
may_catch_up_with_same_lead q n m k h = record {
  leads = k.leads ∙ h.leads;
  list = subst (λ (l : Log). MayCatchUpWith l (refresh_at_end n).core.base m) (sym k.log) (subst (λ base. MayCatchUpWith q.core.log base m) (sym k.base) h.list);
}

-- an exchange is the end of a step to the sequencer
leads_on_after_exchange : (t : TwoNodes) → MayCatchUp t.sequencer t.member_ → LeadsOn t.sequencer (exchange t).sequencer
leads_on_after_exchange t h =
    let is : (exchange t).sequencer ≡ refresh_at_end t.sequencer = ap (λ (u : TwoNodes). u.sequencer) (exchange_is t.sequencer t.member_ h) ∙ (served_by t.sequencer t.member_ h).node in
    subst (LeadsOn t.sequencer) (sym is) (leads_on_after_end t.sequencer)

exchange_brings_along : (t : TwoNodes) → MayCatchUp t.sequencer t.member_ → AlongEndOf t.sequencer (exchange t).member_ ⊎ HasEightMore t.member_ (exchange t)
exchange_brings_along t h =
    let q = t.sequencer in
    let y = exchange t in
    elim (exchange_brings q t.member_ h) [
      | inl acts ↦ inl acts
      | inr b ↦
          (let more = b.more in
          let short = b.list.missing in
          let reached = b.list.reached in
          let on = leads_on_after_exchange t h in
          inr (record {
            more = omega arith;
            goes_on = record {
              leads = on.leads ∙ h.leads;
              list = subst (λ (l : Log). MayCatchUpWith l (refresh_at_end y.sequencer).core.base y.member_) (sym on.log)
                  (subst (λ base. MayCatchUpWith q.core.log base y.member_) (sym on.base) b.list);
            };
          }))
    ]

pub exchanges_bring_entries : ExchangesBringEntries
exchanges_bring_entries t h = elim (exchange_brings_along t h) [
  | inl acts ↦ inl (record { acts = acts.acts; view_ = acts.view_ })
  | inr more ↦ inr more
]

-- after enough exchanges the member acts along the sequencer's list, and the sequencer leads on
pub exchanges_reach_view_of_lead : (t : TwoNodes) (many : ℕ) → MayCatchUp t.sequencer t.member_ → (image_of_node t.sequencer).view_number ≤ top t.member_ + 8 * many
    → (n : ℕ) × (n ≤ many) × ActsAlong t.sequencer.core.log (refresh_at_end t.sequencer).core.base (exchanges n t).member_ × LeadsOn t.sequencer (exchanges n t).sequencer
unfolding exchanges
exchanges_reach_view_of_lead t zero h far = (let missing = h.list.missing in absurd (omega arith))
exchanges_reach_view_of_lead t (suc many) h far =
    let on = leads_on_after_exchange t h in
    elim (exchange_brings_along t h) [
      | inl acts ↦ (1, omega arith, acts, on)
      | inr b ↦
          (let more = b.more in
          let number = ap (λ (l : Log). (image_of_log l).view_number) on.log in
          let rest = exchanges_reach_view_of_lead (exchange t) many b.goes_on (omega arith) in
          (suc rest.0, omega arith, along_same_lead t.sequencer (exchange t).sequencer (exchanges rest.0 (exchange t)).member_ on rest.2, leads_on_in_turn on rest.3))
    ]

pub exchanges_reach_view : ExchangesReachView
exchanges_reach_view t many h far =
    let reach = exchanges_reach_view_of_lead t many h far in
    (reach.0, reach.1, record { acts = reach.2.acts; view_ = reach.2.view_ })
