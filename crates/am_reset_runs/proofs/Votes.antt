-- A reset begins a ballot, and then votes come until nobody is waited for.
use Rattle.am_reset_runs.proofs.Words.{◌≡◌, inl, inr, ℕ, zero, suc, ◌+◌, ◌<◌, ◌≤◌, ◌==◌, not, nat_lt, true, false, List, [], ◌∷◌, ◌++◌, Option, Some, None, is_some, refl, sym, ap, ◌∙◌, subst, arith}
use Rattle.am_reset_runs.proofs.Words.{All, All-nil, All-cons, All-append, split_on_bool, place_of_name, has, size, members, Event, Node, Ballot, node_with_promise, step, refresh_at_end, World, world_with_step, runs_go_on, event_at}
use Rattle.am_reset_runs.proofs.Words.{Vote, need_set_of, is_waited_for, new_ballot, names_that_pass, those_in, MayReset, IsOfReset, IsTickOrHearing, resets, gives_up, spreads}
use Rattle.std.specs.Prelude.{min}
unfoldable use Rattle.am_group_defs.specs.World.{happens, world_after_events}
use Rattle.am_group_defs.specs.World.{world_after_node_event}
use Rattle.am_base.specs.declared.event.NodeEvent.TheVariants as does
use Rattle.am_group.specs.declared.event.Act.TheVariants as act
use Rattle.am_model.specs.Emit.{StepResult}
use Rattle.am_step_laws.specs.Looks.{MayBegin}
use Rattle.am_repair.proofs.RepairWords.{All-weaker}
use Rattle.am_ballot_laws.proofs.Voting.{resets_look}
use Rattle.am_fetch_runs.specs.Events.{events_of_exchanges}
use Rattle.am_fetch_runs.proofs.Events.{IsThereNow, OneMoved, stepped, place_is_of_its_name}
use Rattle.am_fetch_runs.proofs.Gathering.{exchanges_are_of_such}
use Rattle.am_reset_runs.proofs.Parts.{stamp_of_reset, VotersAreSound, VotesCome}
use Rattle.am_reset_runs.proofs.Counts.{somebody_is_in, sixteen_that_pass}
use Rattle.am_reset_runs.proofs.Voting as voting
use Rattle.am_reset_runs.proofs.Voting.{unheard, unvoted_places}
use Rattle.am_fetch_runs.proofs.Ticks.{TicksAtMost, no_events_tick, then_no_tick, ticks_in_turn, exchanges_tick_at}
use Rattle.am_reset_runs.proofs.Words.{current}
use Rattle.am_abstract_group.proofs.Puts.{count_le_of_weaker_test}
unfoldable use Rattle.am_abstract_group.specs.Group.{count_of_passing_below}

-- ticks and hearings are of a reset
pub spread_events : (place : ℕ) (events : List Event) → All IsTickOrHearing events → All (IsOfReset place) events
spread_events place events such = All-weaker IsTickOrHearing (IsOfReset place) (λ e t. spreads e t) events such

-- whoever is waited for is another name that hasn't voted and wasn't given up
record IsWaited (b : Ballot) (c k : ℕ) : Type 0 where
  other : (k == c) ≡ false
  unvoted : b.votes k ≡ None
  kept : b.given_up k ≡ false

nothing_there : (o : Option Vote) → is_some o ≡ false → o ≡ None
nothing_there None f = refl
nothing_there (Some v) f = absurd (cc)

is_waited : (b : Ballot) (c k : ℕ) → is_waited_for c b k ≡ true → IsWaited b c k
is_waited b c k t = split_on_bool (k == c)
    (λ same. absurd (let z = rw same at t in cc))
    (λ f. split_on_bool (is_some (b.votes k))
    (λ some. absurd (let z = rw (f, some) at t in cc))
    (λ none. split_on_bool (b.given_up k)
    (λ given. absurd (let z = rw (f, none, given) at t in cc))
    (λ kept. record { other = f; unvoted = nothing_there (b.votes k) none; kept = kept })))

-- a Reset changes its own name's node alone
pub reset_moves : (x : World) (c resilience : ℕ) → IsThereNow x c
    → (let s = step (x.nodes c) (does.Reset 1 resilience) in OneMoved x (happens x (event_at (place_of_name c) (act.Reset 1 resilience))) c s.node s.letters)
unfolding happens
reset_moves x c resilience there =
    let runs = there.runs in
    let e = event_at (place_of_name c) (act.Reset 1 resilience) in
    let s = step (x.nodes c) (does.Reset 1 resilience) in
    let is : happens x e ≡ world_with_step x e c s = ap (λ name. world_after_node_event x e name (does.Reset 1 resilience)) (place_is_of_its_name x c there) ∙ rw runs refl in
    subst (λ (u : World). OneMoved x u c s.node s.letters) (sym is) (stepped x e c s)

module _ (w : World) (c : ℕ) (sound : VotersAreSound w c) (may : MayReset w c) where
  abbrev place : ℕ
  place = place_of_name c

  -- ---- one more

  record VotesGoOn (v : World) (b : Ballot) : Type 0 where
    more : List Event
    such : All (IsOfReset place) more
    node : Node
    ballot : Ballot
    come : VotesCome w (world_after_events v more) c node ballot
    fewer : unheard w ballot < unheard w b
    many : ℕ
    ticks : TicksAtMost place more many
    spent : many + unvoted_places w ballot ≤ unvoted_places w b

  one_more : (v : World) (m : Node) (b : Ballot) → VotesCome w v c m b → nat_lt 0 (size (names_that_pass (is_waited_for m.core.who b) (need_set_of m b))) ≡ true → VotesGoOn v b
  unfolding world_after_events
  one_more v m b h some =
      let names = names_that_pass (is_waited_for m.core.who b) (need_set_of m b) in
      let pick = somebody_is_in names (sixteen_that_pass (is_waited_for m.core.who b) (need_set_of m b)) some in
      let k = pick.0 in
      let in_ = those_in (is_waited_for m.core.who b) (need_set_of m b) k pick.1 in
      let waited = is_waited b c k (ap (λ i. is_waited_for i b k) (sym h.who) ∙ in_.1) in
      elim (voting.needed_is_known w c sound may v m b h k in_.0) [
        | inl goes ↦ record {
          more = event_at place (act.GiveUp k) ∷ [];
          such = All-cons (IsOfReset place) _ [] (gives_up k) (All-nil (IsOfReset place));
          node = v.nodes c;
          ballot = _;
          come = voting.come_after w c sound may v m b h names refl some k goes waited.unvoted waited.kept waited.other;
          fewer = voting.fewer_after w c sound may v m b h names refl some k goes waited.unvoted waited.kept waited.other;
          many = 0;
          ticks = then_no_tick place (event_at place (act.GiveUp k)) [] 0 refl (no_events_tick place);
          spent = (let less = voting.no_more_places w c sound may v m b h names refl some k goes waited.unvoted waited.kept waited.other in omega arith);
        }
        | inr votes_ ↦ record {
          more = events_of_exchanges 1 v k c;
          such = spread_events place (events_of_exchanges 1 v k c) (exchanges_are_of_such 1 v k c);
          node = refresh_at_end (v.nodes c);
          ballot = _;
          come = voting.come_with_vote w c sound may v m b h names refl some k votes_ pick.1 waited.unvoted waited.kept waited.other;
          fewer = voting.fewer_with_vote w c sound may v m b h names refl some k votes_ pick.1 waited.unvoted waited.kept waited.other;
          many = 1;
          ticks = exchanges_tick_at 1 v k c;
          spent = (let less = voting.fewer_places w c sound may v m b h names refl some k votes_ pick.1 waited.unvoted waited.kept waited.other in omega arith);
        }
      ]

  -- ---- all of them

  pub record VotesEnd (v : World) : Type 0 where
    pub more : List Event
    pub such : All (IsOfReset place) more
    pub node : Node
    pub ballot : Ballot
    pub come : VotesCome w (world_after_events v more) c node ballot
    pub nobody : nat_lt 0 (size (names_that_pass (is_waited_for node.core.who ballot) (need_set_of node ballot))) ≡ false
    pub many : ℕ
    pub ticks : TicksAtMost place more many

  votes_end : (fuel : ℕ) (v : World) (m : Node) (b : Ballot) → VotesCome w v c m b → unheard w b < fuel → (z : VotesEnd v) × (z.many ≤ unvoted_places w b)
  unfolding world_after_events
  votes_end zero v m b h low = absurd (omega arith)
  votes_end (suc fuel) v m b h low = split_on_bool (nat_lt 0 (size (names_that_pass (is_waited_for m.core.who b) (need_set_of m b))))
      (λ some.
      let a = one_more v m b h some in
      let fewer = a.fewer in
      let spent = a.spent in
      let next = votes_end fuel (world_after_events v a.more) a.node a.ballot a.come (omega arith) in
      let z = next.0 in
      let left = next.1 in (
        record {
          more = a.more ++ z.more;
          such = All-append (IsOfReset place) a.more z.more a.such z.such;
          node = z.node;
          ballot = z.ballot;
          come = subst (λ (x : World). VotesCome w x c z.node z.ballot) (sym (runs_go_on v a.more z.more)) z.come;
          nobody = z.nobody;
          many = a.many + z.many;
          ticks = ticks_in_turn place a.more z.more a.many z.many a.ticks z.ticks;
        },
        omega arith,
      ))
      (λ none. (record { more = []; such = All-nil (IsOfReset place); node = m; ballot = b; come = h; nobody = none; many = 0; ticks = no_events_tick place }, omega arith))

  -- ---- the reset

  module _ (resilience : ℕ) where
    abbrev e : Event
    e = event_at place (act.Reset 1 resilience)

    abbrev s : StepResult
    s = step (w.nodes c) (does.Reset 1 resilience)

    there : IsThereNow w c
    there = record { now = may.itself.current_.now; runs = may.itself.current_.runs; who = sound.who c }

    moved : OneMoved w (happens w e) c s.node s.letters
    moved = reset_moves w c resilience there

    may_begin : MayBegin (w.nodes c)
    may_begin = record { member = may.itself.member_; listed = ap (has (members (w.nodes c))) (sound.who c) ∙ may.listed; stays = may.itself.stays }

    abbrev first : Ballot
    first = new_ballot (stamp_of_reset w c) 1 (min resilience 15)

    begun : VotesCome w (happens w e) c (node_with_promise (w.nodes c) (stamp_of_reset w c)) first
    begun = record {
      log = refl;
      who = sound.who c;
      promise = refl;
      status = refl;
      leaving = refl;
      stamp = refl;
      open_ = refl;
      least_ = refl;
      votes = λ name vote shown. absurd (cc);
      given = λ name t. absurd (cc);
      lives = moved.lives;
      stopped = moved.stopped;
      alike = λ name f none. moved.others name f;
      looked = moved.node ∙ resets_look (w.nodes c) 1 resilience may_begin;
    }

    -- a reset, and the votes that come then, one tick for each of at most sixteen places
    pub votes_end_after_reset : (z : VotesEnd w) × (z.many ≤ 16)
    unfolding world_after_events count_of_passing_below
    votes_end_after_reset =
        let low : unheard w first < suc (unheard w first) = omega arith in
        let next = votes_end (suc (unheard w first)) (happens w e) (node_with_promise (w.nodes c) (stamp_of_reset w c)) first begun low in
        let z = next.0 in
        let left = next.1 in
        let all = count_le_of_weaker_test (λ place. not (is_some (first.votes (current w place)))) (λ place. true) 16 (λ j t. refl) in (
          record {
            more = e ∷ z.more;
            such = All-cons (IsOfReset place) e z.more (resets resilience) z.such;
            node = z.node;
            ballot = z.ballot;
            come = z.come;
            nobody = z.nobody;
            many = z.many;
            ticks = then_no_tick place e z.more z.many refl z.ticks;
          },
          omega arith,
        )
