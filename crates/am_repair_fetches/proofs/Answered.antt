-- After its members have come to its sequencer's view, taking rounds answer all that they sent.
use Rattle.am_repair.proofs.RepairWords.{◌≡◌, ℕ, ◌+◌, ◌*◌, true, List, ◌++◌, sym, ap, ◌∙◌, subst, arith, has, names_of, members_of_image, log_image_at, Log, image_of_log, top_of_log}
use Rattle.am_repair.proofs.RepairWords.{top, members, is_member, is_stopped, World, current, run, runs_go_on, row_at_place}
use Rattle.am_group_defs.specs.Settle.{round_count}
use Rattle.am_group_defs.specs.World.{start}
use Rattle.am_repair.proofs.Known.Beginning.{repair_of_place}
use Rattle.am_repair_takes.specs.Resting.{NobodyAsks, count_of_unnumbered_sends, unnumbered_in}
use Rattle.am_repair_takes.specs.Taking.{HasAll, after_rounds}
use Rattle.am_repair_takes.specs.Rest.{HasNoPending}
use Rattle.am_repair_takes.proofs.Starts.{Starts}
use Rattle.am_repair_takes.proofs.Begins.{starts_in_running_list}
use Rattle.am_repair_takes.proofs.Rounds.{repaired_by_taking_where_lists_agree}
use Rattle.am_repair_takes.proofs.Rest.{sends_are_answered_where_lists_agree}
use Rattle.am_step_laws.proofs.Words.{member_status_has_log}
use Rattle.std.specs.List.{sum_by}
use Rattle.am_repair.proofs.RepairWords.{Image, ◌≤◌, ◌<◌, false, Rules, MayFound, Event, image_of_node, log_members_at, image_at_top_is_told, false_from_ne_true}
use Rattle.am_repair_fetches.specs.Later.{MayRepairLater}
use Rattle.am_repair_fetches.specs.Rest.{AreAnsweredLater, SendsAreAnsweredLater, IsDecidedAnew, DecidedViewsAreAnswered}
use Rattle.am_lawful_runs.proofs.Spared.{LawfulUntilLastStop, lawful_is_until_last_stop}
use Rattle.am_repair_fetches.proofs.Later.{gathers_later, same_list_later}
use Rattle.am_repair_fetches.proofs.Unasked.{IsQuieter, quieter_by_events}

-- a sum of what is the same is the same
same_sums : (f g : ℕ → ℕ) → ((k : ℕ) → f k ≡ g k) → (xs : List ℕ) → sum_by f xs ≡ sum_by g xs
same_sums f g same xs = ap (λ (h : ℕ → ℕ). sum_by h xs) (λ i k. same k i)

pub sends_are_answered_later_until_last_stop : (rules : Rules) (events : List Event) (place : ℕ) → MayFound rules → place < 16 → LawfulUntilLastStop rules events
    → MayRepairLater (run rules events) place → NobodyAsks (run rules events) → AreAnsweredLater rules events place
unfolding Starts
sends_are_answered_later_until_last_stop rules events place may low until later asks =
    let w = run rules events in
    let q = current w place in
    let h = gathers_later rules events place may low until later in
    let v = run rules (events ++ h.more) in
    let p = current v place in
    let log = same_list_later rules events place h in
    let quieter : (name : ℕ) → IsQuieter (w.nodes name) (v.nodes name) = λ name. subst (λ (u : World). IsQuieter (w.nodes name) (u.nodes name))
    (sym (runs_go_on (start rules) events h.more)) (quieter_by_events h.more w name h.such) in
    let listed : (name : ℕ) → has (members (w.nodes q)) name ≡ true → is_member (w.nodes name).status ≡ true = λ name there. (later.gathers.each name there).member_ in
    let first = starts_in_running_list rules events place may low until later.gathers.leads later.gathers.current_.runs listed in
    let same_members : (name : ℕ) → has (members (v.nodes p)) name ≡ has (members (w.nodes q)) name = λ name. ap (λ (l : Log). has (members_of_image (image_of_log l)) name) log in
    let starts : Starts (repair_of_place v p) v = λ name there.
    (let inside = sym (same_members name) ∙ there in
    let begins = ((quieter name).begins (member_status_has_log (w.nodes name).status (listed name inside))).start in
    let at = first name inside in
    let row = ap (λ (l : Log). (row_at_place (log_image_at l (top_of_log l)) name).joined) log in
    omega arith) in
    let asks_v : NobodyAsks v = λ name runs. (quieter name).same.asks (asks name (ap (λ (xs : List ℕ). is_stopped (record w { stopped = xs }) name) (sym h.all.spares.stopped) ∙ runs)) in
    let count : unnumbered_in v p ≡ unnumbered_in w q = ap (λ (l : Log). count_of_unnumbered_sends (λ name. (v.nodes name).sends.last) (image_of_log l) (names_of (members_of_image (image_of_log l)))) log
    ∙ ap (λ (lasts : ℕ → ℕ). count_of_unnumbered_sends lasts (image_of_log (w.nodes q).core.log) (names_of (members (w.nodes q)))) (λ i name. (quieter name).same.last i) in
    let long = ap (λ (l : Log). top_of_log l) log in (
      h.more,
      h.such,
      h.few,
      λ further name there.
          (let inside = same_members name ∙ there in
          let rounds = round_count rules + 6 * unnumbered_in w q + further in
          let sum : round_count rules + (6 * unnumbered_in w q + further) ≡ rounds = omega arith in
          record {
            all = subst (λ k. HasAll (after_rounds k v) name (top (w.nodes q))) sum (subst (λ k. HasAll (after_rounds (round_count rules + (6 * unnumbered_in w q + further)) v) name k) long
                (repaired_by_taking_where_lists_agree rules (events ++ h.more) place (6 * unnumbered_in w q + further) may low h.may h.agree name inside));
            answered = subst (λ k. HasNoPending ((after_rounds (round_count rules + 6 * k + further) v).nodes name)) count
                (sends_are_answered_where_lists_agree rules (events ++ h.more) place further may low h.may h.agree starts asks_v name inside);
          }),
    )

pub sends_are_answered_later : SendsAreAnsweredLater
sends_are_answered_later rules events place may low lawful later asks =
    sends_are_answered_later_until_last_stop rules events place may low (lawful_is_until_last_stop rules events lawful) later asks

-- ---- a view that was just decided

-- who stopped or leaves is out of it
decided_may_be_repaired_later : (w : World) (place : ℕ) → IsDecidedAnew w place → MayRepairLater w place
decided_may_be_repaired_later w place h =
    let q = w.nodes (current w place) in
    let out : (name number : ℕ) → (has (members q) name ≡ true → ⊥) → (image_of_node q).view_number ≤ number → number ≤ top q → has (log_members_at q.core.log number) name ≡ false =
    λ name number none viewed within.
    (let last = h.last in
    let at : number ≡ top q = omega arith in
    ap (λ n. has (log_members_at q.core.log n) name) at ∙ ap (λ (i : Image). has (members_of_image i) name) (image_at_top_is_told q.core.log)
    ∙ false_from_ne_true (has (members q) name) none) in
    record {
      gathers = h.gathers;
      nobody_stopped = λ name t here number above viewed within. out name number (λ listed. (let runs = (h.gathers.each name listed).current_.runs in cc)) viewed within;
      nobody_leaves = λ name t here number above viewed within. out name number (λ listed. (let stays = h.stays name listed in cc)) viewed within;
    }

pub decided_views_are_answered_until_last_stop : (rules : Rules) (events : List Event) (place : ℕ) → MayFound rules → place < 16 → LawfulUntilLastStop rules events
    → IsDecidedAnew (run rules events) place → NobodyAsks (run rules events) → AreAnsweredLater rules events place
decided_views_are_answered_until_last_stop rules events place may low until decided =
    sends_are_answered_later_until_last_stop rules events place may low until (decided_may_be_repaired_later (run rules events) place decided)

pub decided_views_are_answered : DecidedViewsAreAnswered
decided_views_are_answered rules events place may low lawful decided =
    decided_views_are_answered_until_last_stop rules events place may low (lawful_is_until_last_stop rules events lawful) decided
