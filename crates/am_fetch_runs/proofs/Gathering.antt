-- One member after the other comes to a running sequencer's view.
use Rattle.am_fetch_runs.proofs.Words.{◌≡◌, ℕ, zero, suc, ◌+◌, ◌<◌, ◌==◌, true, false, List, [], ◌++◌, refl, sym, ap, ◌∙◌, subst, arith, nat_tests, split_on_bool, eqb-true}
use Rattle.am_fetch_runs.proofs.Words.{Rules, MayFound, Event, Log, Node, view, members, image_of_node, image_of_log, stamps_are_equal, has, is_sequencer, World, run, is_stopped, names_hold_in_runs, LawfulUntilLastStop, lawful_is_until_last_stop, some_group_follows_until_last_stop, StopsNobody}
use Rattle.am_fetch_runs.proofs.Words.{RunsInListOf, LagsBehind, both_of_and, acts_in_its_view, stamp_eq_gives_equality}
use Rattle.std.proofs.Common.{All}
use Rattle.std.proofs.lemmas.List.Elements.{All-nil, All-cons, All-append, All-weaker}
use Rattle.am_base.specs.Names.{place_of_name}
use Rattle.am_group.specs.declared.event.Act.TheVariants as act
use Rattle.am_group_defs.specs.World.{current, start}
unfoldable use Rattle.am_group_defs.specs.World.{world_after_events}
use Rattle.am_group_defs.proofs.Runs.{runs_go_on}
use Rattle.am_fetch_laws.specs.Exchanges.{TwoNodes, MayCatchUp, ActsInViewOf}
use Rattle.am_fetch_laws.proofs.Exchanged.{ActsAlong, LeadsOn, leads_on_in_turn, along_same_lead, may_catch_up_with_same_lead, exchanges_reach_view_of_lead}
use Rattle.am_model.specs.Refresh.{refresh_at_end}
use Rattle.am_base.specs.Lists.{top_of_log, log_image_at}
use Rattle.am_model.specs.Node.{top}
use Rattle.am_fetch_runs.proofs.Alike.{acts_along_list}
use Rattle.am_fetch_runs.proofs.Words.{run_trims_only_taken}
use Rattle.am_fetch_runs.specs.Events.{exchange_events, hears_new, tick_of, asked, served}
unfoldable use Rattle.am_fetch_runs.specs.Events.{hears_from, events_of_exchanges}
use Rattle.am_fetch_runs.specs.Events.{ticks_at}
use Rattle.am_fetch_runs.specs.Gathering.{MayGather, IsTickOrHearing, ticks, hears, TicksOfGathering, MembersGather}
use Rattle.am_fetch_runs.proofs.Ticks.{exchanges_tick, ticks_of_both}
use Rattle.am_fetch_runs.proofs.Words.{◌≤◌, nat_lt}
use Rattle.std.specs.Prelude.{◌/◌, if◌then◌else◌}
use Rattle.am_fetch_runs.proofs.Events.{differs_back, IsThereNow, two_of, exchanges_happen}
use Rattle.am_fetch_runs.proofs.Lagging.{lagger_is_another, laggers_may_catch_up_until_last_stop}
use Rattle.am_fetch_runs.proofs.Behind.{promised_is_view}
use Rattle.am_fetch_runs.proofs.Words.{length, ◌-◌}
use Rattle.am_group_defs.specs.Settle.{event_at}

-- ---- the events

hearings_are_such : (place number many : ℕ) → All IsTickOrHearing (hears_from place number many)
unfolding hears_from
hearings_are_such place number zero = All-nil IsTickOrHearing
hearings_are_such place number (suc left) = All-cons IsTickOrHearing _ _ (hears place number) (hearings_are_such place (number + 1) left)

exchange_is_of_such : (w : World) (q name : ℕ) → All IsTickOrHearing (exchange_events w q name)
exchange_is_of_such w q name =
    let asks = hears_new (asked w name) (place_of_name q) (length w.letters) in
    let gets = hears_new (served w q name) (place_of_name name) (length (asked w name).letters) in
    All-append IsTickOrHearing (tick_of name) (asks ++ gets) (All-cons IsTickOrHearing (event_at (place_of_name name) act.Tick) [] (ticks (place_of_name name)) (All-nil IsTickOrHearing))
    (All-append IsTickOrHearing asks gets (hearings_are_such (place_of_name q) (length w.letters + 1) (length (asked w name).letters - length w.letters))
    (hearings_are_such (place_of_name name) (length (asked w name).letters + 1) (length (served w q name).letters - length (asked w name).letters)))

pub exchanges_are_of_such : (n : ℕ) (w : World) (q name : ℕ) → All IsTickOrHearing (events_of_exchanges n w q name)
unfolding events_of_exchanges
exchanges_are_of_such zero w q name = All-nil IsTickOrHearing
exchanges_are_of_such (suc left) w q name =
    All-append IsTickOrHearing (exchange_events w q name) (events_of_exchanges left (world_after_events w (exchange_events w q name)) q name) (exchange_is_of_such w q name) (exchanges_are_of_such left (world_after_events w (exchange_events w q name)) q name)

-- nobody stops by them
pub ticks_and_hearings_stop_nobody : (events : List Event) → All IsTickOrHearing events → All StopsNobody events
ticks_and_hearings_stop_nobody events such = All-weaker IsTickOrHearing StopsNobody one events such
  where
    one : (e : Event) → IsTickOrHearing e → StopsNobody e
    one e (ticks place) = refl
    one e (hears place number) = refl

-- ---- on the way

-- a name acts along the sequencer's list, or may catch up with it
data IsOnWay (window : ℕ) (q0 : Node) (v : World) (q name : ℕ) : Type 0 where
  acts : ActsAlong q0.core.log (refresh_at_end q0).core.base (v.nodes name) → IsOnWay window q0 v q name
  lags : MayCatchUp (v.nodes q) (v.nodes name) → IsThereNow v name → (q == name) ≡ false → (v.nodes name).core.rules.window ≡ window → IsOnWay window q0 v q name

-- the sequencer leads on, and each member of its list is on its way
record IsGathering (window : ℕ) (w v : World) (q : ℕ) : Type 0 where
  leads : is_sequencer (w.nodes q) ≡ true
  lead : LeadsOn (w.nodes q) (v.nodes q)
  there : IsThereNow v q
  each : (name : ℕ) → has (members (w.nodes q)) name ≡ true → IsOnWay window (w.nodes q) v q name

abbrev pub Acts : World → World → ℕ → ℕ → Type 0
Acts w v q name = ActsAlong (w.nodes q).core.log (refresh_at_end (w.nodes q)).core.base (v.nodes name)

-- nobody but the members of its list does anything
pub record SpareOthers (w v x : World) (q : ℕ) : Type 0 where
  pub lives : x.lives ≡ v.lives
  pub stopped : x.stopped ≡ v.stopped
  pub others : (j : ℕ) → (j == q) ≡ false → has (members (w.nodes q)) j ≡ false → x.nodes j ≡ v.nodes j

-- what some events bring
-- and how often places tick in them at most
record Gathered (window : ℕ) (w v : World) (q : ℕ) (most : ℕ → ℕ) (P : World → Type 0) : Type 0 where
  more : List Event
  such : All IsTickOrHearing more
  ticks_ : (place : ℕ) → ticks_at place more ≤ most place
  goes_on : IsGathering window w (world_after_events v more) q
  keeps : (j : ℕ) → Acts w v q j → Acts w (world_after_events v more) q j
  spares : SpareOthers w v (world_after_events v more) q
  brings : P (world_after_events v more)

differs_by_list : (set : List ℕ) (a b : ℕ) → has set a ≡ true → has set b ≡ false → (b == a) ≡ false
differs_by_list set a b t f = split_on_bool (b == a) (λ same. absurd (let k = ap (has set) (eqb-true b a same) in cc)) (λ g. g)

-- a sequencer that leads on acts on
acts_on : (log : Log) (base : ℕ) (m n : Node) → LeadsOn m n → is_sequencer n ≡ true → ActsAlong log base m → ActsAlong log base n
acts_on log base m n on leads h =
    let same : top n ≡ top m = ap (λ (l : Log). top_of_log l) on.log in
    let more = on.taken in
    let low = h.low in
    let within = h.within in
    let taken = h.taken in
    record {
      acts = (both_of_and (acts_in_its_view n) ((view n).by == n.core.who) leads).0;
      view_ = ap (λ (l : Log). (image_of_log l).view) on.log ∙ h.view_;
      low = omega arith;
      within = omega arith;
      told_ = ap (λ (l : Log). image_of_log l) on.log ∙ h.told_ ∙ ap (log_image_at log) (sym same);
      taken = omega arith;
    }

-- a member that lags comes to act
-- it ticks as often as it exchanges, and nobody else ticks
lagger_ticks : (window : ℕ) (v : World) (q name n : ℕ) → current v (place_of_name name) ≡ name → n ≤ (window + 22) / 8
    → (place : ℕ) → ticks_at place (events_of_exchanges n v q name) ≤ (if current v place == name then (window + 22) / 8 else 0)
lagger_ticks window v q name n now most place =
    let h = exchanges_tick n place v q name in
    split_on_bool (place_of_name name == place)
    (λ t.
    let same = ap (λ p. current v p == name) (sym (eqb-true (place_of_name name) place t)) ∙ ap (λ i. i == name) now ∙ itself name in
    let is = rw t at h in
    rw same (omega arith))
    (λ f. let is = rw f at h in omega arith)
  where
    itself : (k : ℕ) → (k == k) ≡ true
    itself k = grind (arith, nat_tests)

-- so often the place of a name ticks
abbrev ticks_of_one : ℕ → World → ℕ → ℕ → ℕ
ticks_of_one window v name place = if current v place == name then (window + 22) / 8 else 0

gather_lagger : (window : ℕ) (w v : World) (q name : ℕ) → IsGathering window w v q → has (members (w.nodes q)) name ≡ true → MayCatchUp (v.nodes q) (v.nodes name) → IsThereNow v name → (q == name) ≡ false
    → (v.nodes name).core.rules.window ≡ window → Gathered window w v q (ticks_of_one window v name) (λ x. Acts w x q name)
gather_lagger window w v q name h listed may there differ same_window =
    let missing = may.list.missing in
    let room = may.list.room in
    let low_ = may.list.low in
    let number = ((image_of_node (v.nodes q)).view_number - top (v.nodes name) + 7) / 8 in
    let reach = exchanges_reach_view_of_lead (two_of v q name) number may (omega arith) in
    let n = reach.0 in
    let within = reach.1 in
    let most : n ≤ (window + 22) / 8 = omega arith in
    let x = world_after_events v (events_of_exchanges n v q name) in
    let e = exchanges_happen n v q name (record { leader = h.there; lagger = there; differ = differ }) in
    let on : LeadsOn (v.nodes q) (x.nodes q) = subst (λ (t : TwoNodes). LeadsOn (v.nodes q) t.sequencer) (sym e.two) reach.3 in
    let lead = leads_on_in_turn h.lead on in
    let mine : Acts w x q name = along_same_lead (w.nodes q) (v.nodes q) (x.nodes name) h.lead
    (subst (λ (t : TwoNodes). ActsAlong (v.nodes q).core.log (refresh_at_end (v.nodes q)).core.base t.member_) (sym e.two) reach.2) in
    let keeps : (j : ℕ) → Acts w v q j → Acts w x q j = λ j acts_. split_on_bool (j == q)
    (λ t. let same = eqb-true j q t in subst (λ i. Acts w x q i) (sym same) (acts_on (w.nodes q).core.log (refresh_at_end (w.nodes q)).core.base (v.nodes q) (x.nodes q) on (lead.leads ∙ h.leads)
    (subst (λ i. Acts w v q i) same acts_)))
    (λ f. split_on_bool (j == name)
    (λ t. subst (λ i. Acts w x q i) (sym (eqb-true j name t)) mine)
    (λ g. subst (λ (m : Node). ActsAlong (w.nodes q).core.log (refresh_at_end (w.nodes q)).core.base m) (sym (e.others j f g)) acts_)) in
    let way : (j : ℕ) → IsOnWay window (w.nodes q) v q j → IsOnWay window (w.nodes q) x q j = λ j was. (elim was [
      | acts a ↦ acts (keeps j a)
      | lags may_ there_ other sized ↦ split_on_bool (j == name)
          (λ t. acts (subst (λ i. Acts w x q i) (sym (eqb-true j name t)) mine))
          (λ g. let same = e.others j (differs_back q j other) g in
          lags (subst (λ (m : Node). MayCatchUp (x.nodes q) m) (sym same) (may_catch_up_with_same_lead (v.nodes q) (x.nodes q) (v.nodes j) on may_))
          (record {
            now = ap (λ (f : ℕ → ℕ). current (record v { lives = f }) (place_of_name j)) e.lives ∙ there_.now;
            runs = ap (λ (xs : List ℕ). is_stopped (record v { stopped = xs }) j) e.stopped ∙ there_.runs;
            who = ap (λ (m : Node). m.core.who) same ∙ there_.who;
          }) other (ap (λ (m : Node). m.core.rules.window) same ∙ sized))
    ]) in
    record {
      more = events_of_exchanges n v q name;
      such = exchanges_are_of_such n v q name;
      ticks_ = lagger_ticks window v q name n there.now most;
      goes_on = record { leads = h.leads; lead = lead; there = e.both.leader; each = λ j listed. way j (h.each j listed) };
      keeps = keeps;
      spares = record {
        lives = e.lives;
        stopped = e.stopped;
        others = λ j f none. e.others j f (differs_by_list (members (w.nodes q)) name j listed none);
      };
      brings = mine;
    }

-- nothing has to be done
stay : (window : ℕ) (w v : World) (q : ℕ) (most : ℕ → ℕ) (P : World → Type 0) → IsGathering window w v q → P v → Gathered window w v q most P
unfolding world_after_events
stay window w v q most P h p = record {
  more = [];
  such = All-nil IsTickOrHearing;
  ticks_ = λ place. omega arith;
  goes_on = h;
  keeps = λ j a. a;
  spares = record { lives = refl; stopped = refl; others = λ j f none. refl };
  brings = p;
}

gather_one : (window : ℕ) (w v : World) (q name : ℕ) → IsGathering window w v q → has (members (w.nodes q)) name ≡ true → IsOnWay window (w.nodes q) v q name
    → Gathered window w v q (ticks_of_one window v name) (λ x. Acts w x q name)
gather_one window w v q name h listed (acts a) = stay window w v q (ticks_of_one window v name) (λ x. Acts w x q name) h a
gather_one window w v q name h listed (lags may there differ sized) = gather_lagger window w v q name h listed may there differ sized

-- one after the other
AllActBelow : World → ℕ → ℕ → World → Type 0
AllActBelow w q k x = (name : ℕ) → name < k → has (members (w.nodes q)) name ≡ true → Acts w x q name

-- so often the places of all names below a number tick
abbrev ticks_of_all : ℕ → World → ℕ → ℕ → ℕ
ticks_of_all window v k place = if nat_lt (current v place) k then (window + 22) / 8 else 0

one_more_ticks : (window : ℕ) (v u : World) (k place a b : ℕ) → u.lives ≡ v.lives → a ≤ ticks_of_all window v k place → b ≤ ticks_of_one window u k place
    → a + b ≤ ticks_of_all window v (suc k) place
one_more_ticks window v u k place a b lives h g =
    let same : (current u place == k) ≡ (current v place == k) = ap (λ (f : ℕ → ℕ). current (record v { lives = f }) place == k) lives in
    split_on_bool (current v place == k)
    (λ t.
    let x = same ∙ t in
    let is : current v place ≡ k = grind (arith, nat_tests) in
    let above : nat_lt (current v place) k ≡ false = grind (arith, nat_tests) in
    let below : nat_lt (current v place) (suc k) ≡ true = grind (arith, nat_tests) in
    let g1 = rw x at g in
    let h1 = rw above at h in
    rw below (omega arith))
    (λ f.
    let x = same ∙ f in
    let g1 = rw x at g in
    split_on_bool (nat_lt (current v place) k)
    (λ t. let below : nat_lt (current v place) (suc k) ≡ true = grind (arith, nat_tests) in let h1 = rw t at h in rw below (omega arith))
    (λ e. let h1 = rw e at h in omega arith))

then_one : (window : ℕ) (w v : World) (q k : ℕ) → (a : Gathered window w v q (ticks_of_all window v k) (AllActBelow w q k))
    → Gathered window w (world_after_events v a.more) q (ticks_of_one window (world_after_events v a.more) k) (λ x. has (members (w.nodes q)) k ≡ true → Acts w x q k)
    → Gathered window w v q (ticks_of_all window v (suc k)) (AllActBelow w q (suc k))
unfolding AllActBelow
then_one window w v q k a b =
    let whole = runs_go_on v a.more b.more in
    record {
      more = a.more ++ b.more;
      such = All-append IsTickOrHearing a.more b.more a.such b.such;
      ticks_ = λ place. (let both = ticks_of_both place a.more b.more in
          let sum = one_more_ticks window v (world_after_events v a.more) k place (ticks_at place a.more) (ticks_at place b.more) a.spares.lives (a.ticks_ place) (b.ticks_ place) in
          omega arith);
      goes_on = subst (λ (x : World). IsGathering window w x q) (sym whole) b.goes_on;
      keeps = λ j acts_. subst (λ (x : World). Acts w x q j) (sym whole) (b.keeps j (a.keeps j acts_));
      spares = subst (λ (x : World). SpareOthers w v x q) (sym whole) (record {
        lives = b.spares.lives ∙ a.spares.lives;
        stopped = b.spares.stopped ∙ a.spares.stopped;
        others = λ j f none. b.spares.others j f none ∙ a.spares.others j f none;
      });
      brings = λ name low listed. subst (λ (x : World). Acts w x q name) (sym whole)
          (split_on_bool (name == k)
          (λ t. let same = eqb-true name k t in subst (λ i. Acts w (world_after_events (world_after_events v a.more) b.more) q i) (sym same)
          (b.brings (subst (λ i. has (members (w.nodes q)) i ≡ true) same listed)))
          (λ f. b.keeps name (a.brings name (below name k low f) listed)));
    }
  where
    below : (name k : ℕ) → name < suc k → (name == k) ≡ false → name < k
    below name k low f = grind (arith, nat_tests)

gather_below : (window k : ℕ) (w v : World) (q : ℕ) → IsGathering window w v q → Gathered window w v q (ticks_of_all window v k) (AllActBelow w q k)
unfolding AllActBelow
gather_below window zero w v q h = stay window w v q (ticks_of_all window v 0) (AllActBelow w q 0) h (λ name low listed. absurd (omega arith))
gather_below window (suc k) w v q h =
    let a = gather_below window k w v q h in
    let u = world_after_events v a.more in
    then_one window w v q k a (split_on_bool (has (members (w.nodes q)) k)
    (λ t. let b = gather_one window w u q k a.goes_on t (a.goes_on.each k t) in
    record { more = b.more; such = b.such; ticks_ = b.ticks_; goes_on = b.goes_on; keeps = b.keeps; spares = b.spares; brings = λ listed. b.brings })
    (λ f. stay window w u q (ticks_of_one window u k) (λ x. has (members (w.nodes q)) k ≡ true → Acts w x q k) a.goes_on (λ listed. absurd (cc))))

-- ---- in every lawful run, and after it while nobody stops

on_way_first : (rules : Rules) (events : List Event) (q name : ℕ) → MayFound rules → LawfulUntilLastStop rules events → MayGather (run rules events) q
    → (let w = run rules events in has (members (w.nodes q)) name ≡ true → IsOnWay rules.window (w.nodes q) w q name)
on_way_first rules events q name may until gathers listed =
    let w = run rules events in
    let m = w.nodes name in
    let at = gathers.each name listed in
    let who = (names_hold_in_runs rules events may).who in
    let among : RunsInListOf w q name = record {
      small_leader = gathers.current_.small;
      small = at.current_.small;
      leads = gathers.leads;
      leader_runs = gathers.current_.runs;
      listed = listed;
      member_ = at.member_;
      runs = at.current_.runs;
    } in
    split_on_bool (stamps_are_equal (view m) (view (w.nodes q)))
    (λ t.
    let h = some_group_follows_until_last_stop rules events may until in
    acts (acts_along_list rules w h.0 q name h.1 among at.trimmed (who q) (run_trims_only_taken rules events may)
    (promised_is_view rules w h.0 q name h.1 among (who q) at.promised) (stamp_eq_gives_equality (view m) (view (w.nodes q)) t)))
    (λ f.
    let lag : LagsBehind w q name = record { among = among; promised = at.promised; behind = f; trimmed = at.trimmed } in
    lags (laggers_may_catch_up_until_last_stop rules events q name may until lag) (record { now = at.current_.now; runs = at.current_.runs; who = who name }) (lagger_is_another w q name lag)
    (ap (λ (r : Rules). r.window) ((run_trims_only_taken rules events may).kept name).founding))

-- all come to act along the sequencer's list; it leads on, and nobody else does anything
pub record AllGathered (w v : World) (q : ℕ) : Type 0 where
  pub leads : is_sequencer (v.nodes q) ≡ true
  pub lead : LeadsOn (w.nodes q) (v.nodes q)
  pub spares : SpareOthers w w v q
  pub act : (name : ℕ) → has (members (w.nodes q)) name ≡ true → Acts w v q name

pub members_gather_until_last_stop : (rules : Rules) (events : List Event) (q : ℕ) → MayFound rules → LawfulUntilLastStop rules events → MayGather (run rules events) q
    → (more : List Event) × All IsTickOrHearing more × TicksOfGathering rules more × AllGathered (run rules events) (world_after_events (run rules events) more) q
unfolding AllActBelow
members_gather_until_last_stop rules events q may until gathers =
    let w = run rules events in
    let who = (names_hold_in_runs rules events may).who in
    let first : IsGathering rules.window w w q = record {
      leads = gathers.leads;
      lead = record { leads = refl; log = refl; acc = omega arith; taken = omega arith; base = refl };
      there = record { now = gathers.current_.now; runs = gathers.current_.runs; who = who q };
      each = λ name listed. on_way_first rules events q name may until gathers listed;
    } in
    let all = gather_below rules.window 256 w w q first in
    let lead = all.goes_on.lead in (
      all.more,
      all.such,
      λ place. (let t = all.ticks_ place in let most = at_most rules.window w place in omega arith),
      record {
        leads = lead.leads ∙ gathers.leads;
        lead = lead;
        spares = all.spares;
        act = λ name listed. all.brings name (gathers.each name listed).current_.small listed;
      },
    )
  where
    at_most : (window : ℕ) (v : World) (place : ℕ) → ticks_of_all window v 256 place ≤ (window + 22) / 8
    at_most window v place = split_on_bool (nat_lt (current v place) 256) (λ t. rw t (omega arith)) (λ f. rw f (omega arith))

pub members_gather : MembersGather
members_gather rules events q may lawful gathers =
    let w = run rules events in
    let all = members_gather_until_last_stop rules events q may (lawful_is_until_last_stop rules events lawful) gathers in (
      all.0,
      all.1,
      all.2,
      λ name listed. subst (λ (x : World). ActsInViewOf (w.nodes q) (x.nodes name)) (sym (runs_go_on (start rules) events all.0))
          (let a = all.3.act name listed in record { acts = a.acts; view_ = a.view_ }),
    )
