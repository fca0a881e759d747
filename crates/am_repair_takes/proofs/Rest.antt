-- Where a lawful run ends that may be repaired and in which nobody asks to join, all that its members sent is answered after so many taking
-- rounds.
use Rattle.am_repair.proofs.RepairWords.{◌≡◌, ℕ, ◌+◌, ◌*◌, ◌/◌, ◌<◌, ◌==◌, true, false, List, [], ◌∷◌, Some, None, refl, sym, ap, ◌∙◌, subst, arith, nat_lt, both_of_and, split_on_bool, eqb-true}
use Rattle.am_repair.proofs.RepairWords.{Rules, MayFound, Event, Node, top, image_of_node, step, World, current, run, MayRepair, told_image_is_used, image_at_top_is_told, log_image_at, log_members_at, members_of_image}
use Rattle.am_repair.proofs.RepairWords.{row, finish}
use Rattle.am_step_laws.proofs.Words.{find, length-map, OwnSend, Option, done_row, member_life_of_row}
use Rattle.am_base.specs.declared.outcome.Outcome.TheVariants as said
use Rattle.am_node_defs.specs.Sends as own
use Rattle.am_node_defs.specs.Sends.{unsettled_sends_are_in_line, next_unsettled_request, is_unsettled, send_has_request}
use Rattle.am_node_defs.proofs.Lines.{waiting_request_le_last, next_in_line_is_waiting}
use Rattle.am_repair.proofs.Schedules.{letter_number_le_length}
use Rattle.am_repair.proofs.Fine.{member_of_repair_is_small}
use Rattle.am_repair.proofs.Known.Beginning.{repair_of_place, repairable_run_is_calm}
use Rattle.am_repair.proofs.Repairable.RepairedSettled.{repairable_lists_agree}
use Rattle.am_repair.proofs.Answered.Outs.{run_sends_have_gone_out}
use Rattle.am_group_defs.specs.Settle.{round_count}
use Rattle.am_repair_takes.specs.Taking.{after_rounds}
use Rattle.am_repair_takes.specs.Resting.{NobodyAsks, unnumbered_in}
use Rattle.am_repair_takes.specs.Rest.{HasNoPending, SendsAreAnswered}
use Rattle.am_repair_takes.proofs.Rounds.{many_rounds, rounds_are}
use Rattle.am_repair_takes.proofs.Quiet.{QuietRun}
use Rattle.am_repair.specs.Standing.{Agree}
use Rattle.am_repair.proofs.RepairWords.{has, members}
use Rattle.am_repair_takes.proofs.Starts.{Starts}
use Rattle.am_repair_takes.proofs.Begins.{starts_first}
use Rattle.am_repair_takes.proofs.Blocks.{Stands, stands_stays, stays_rounds}
use Rattle.am_repair_takes.proofs.RestRounds.{AllSettled, rests}

-- ---- what is pending

-- where all is settled no request is
none_waits : (last req : ℕ) (q : List OwnSend) (s : OwnSend) → unsettled_sends_are_in_line last q ≡ true → last < next_unsettled_request last q
    → find (send_has_request req) q ≡ Some s → s.number ≡ None → ⊥
none_waits last req [] s line done is none = cc
none_waits last req (x ∷ xs) s line done is none = split_on_bool (is_unsettled x)
    (λ t.
    let first : find is_unsettled (x ∷ xs) ≡ Some x = rw t refl in
    let low = waiting_request_le_last last (x ∷ xs) x line first in
    let next = next_in_line_is_waiting last (x ∷ xs) x first in
    omega arith)
    (λ f.
    let l = rw f at line in
    let rest = (both_of_and (nat_lt x.req (next_unsettled_request last xs)) (unsettled_sends_are_in_line last xs) l).1 in
    let done_ : last < next_unsettled_request last xs = rw f at done in
    split_on_bool (send_has_request req x)
    (λ here. let found = rw here at is in let same : x ≡ s = cc in
    let un : is_unsettled x ≡ true = ap is_unsettled same ∙ unsettled s none in let no : true ≡ false = sym un ∙ f in cc)
    (λ other. none_waits last req xs s rest done_ (rw other at is) none))
  where
    unsettled : (s : OwnSend) → s.number ≡ None → is_unsettled s ≡ true
    unsettled s none = rw none refl

all_answered : (m : Node) → unsettled_sends_are_in_line m.sends.last m.sends.queue ≡ true → m.sends.last < own.next_request m.sends → HasNoPending m
unfolding step row done_row finish
all_answered m line done req = by (find (send_has_request req) m.sends.queue) refl
  where
    by_number : (s : OwnSend) (number : Option ℕ) → find (send_has_request req) m.sends.queue ≡ Some s → s.number ≡ number → own.outcome_of_collecting req number ≡ said.Pending req → ⊥
    by_number s None at is says = none_waits m.sends.last req m.sends.queue s line done at is
    by_number s (Some number) at is says = cc

    by : (found : Option OwnSend) → find (send_has_request req) m.sends.queue ≡ found → own.outcome_of_done req found ≡ said.Pending req → ⊥
    by None at says = cc
    by (Some s) at says = by_number s s.number at refl says

-- ---- where the rounds begin

first_quiet : (rules : Rules) (events : List Event) (place : ℕ) → MayFound rules → place < 16 → MayRepair (run rules events) place
    → Agree (run rules events) ((run rules events).nodes (current (run rules events) place)) → NobodyAsks (run rules events) → (let w = run rules events in let q = current w place in
    QuietRun rules (repair_of_place w q) (λ name. (w.nodes name).sends.last) (top (w.nodes q) + unnumbered_in w q) w)
first_quiet rules events place may low repair agree asks =
    let w = run rules events in
    let q = current w place in
    let m = w.nodes q in
    let b = (repairable_run_is_calm rules events place may low repair agree).0 in
    let fine = b.fine in
    let used = told_image_is_used m (fine.laws.each q (member_of_repair_is_small rules (repair_of_place w q) w q fine fine.calm.listed)).fronts in
    record {
      may = may;
      events = events;
      run_ = refl;
      world_is_quiet = record {
        calm = fine.calm;
        sent = omega arith;
        places = length-map (image_of_node m).rows member_life_of_row ∙ used.places;
        list = record {
          members_ = λ k above within. (let at : k ≡ top m = omega arith in
              ap (log_members_at m.core.log) at ∙ ap members_of_image (image_at_top_is_told m.core.log));
          counted_ = λ k above within. absurd (omega arith);
          fit_ = agree.fit;
        };
        few = omega arith;
        asks = asks;
        letters = λ number l late there. absurd (let within = letter_number_le_length w.letters number l there in omega arith);
        lasts = λ name. refl;
      };
    }

-- where lists agree, and each member's list begins where it joined or before
pub sends_are_answered_where_lists_agree : (rules : Rules) (events : List Event) (place more : ℕ) → MayFound rules → place < 16 → MayRepair (run rules events) place
    → (let w = run rules events in let q = current w place in Agree w (w.nodes q) → Starts (repair_of_place w q) w → NobodyAsks w
    → (name : ℕ) → has (members (w.nodes q)) name ≡ true
    → HasNoPending ((after_rounds (round_count rules + 6 * unnumbered_in w q + more) w).nodes name))
unfolding AllSettled
sends_are_answered_where_lists_agree rules events place more may low repair agree starts asks name there =
    let w = run rules events in
    let q = current w place in
    let r = repair_of_place w q in
    let last = λ (name : ℕ). (w.nodes name).sends.last in
    let left = unnumbered_in w q in
    let total = top (w.nodes q) + left in
    let k = round_count rules + 6 * left + more in
    let many = (rules.window + 22) / 8 in
    let quiet = first_quiet rules events place may low repair agree asks in
    let b = repairable_run_is_calm rules events place may low repair agree in
    let few = b.1 in
    let settled = rests left rules r last total many left k w (omega arith) (omega arith) (record {
      quiet = quiet;
      starts = starts;
      at = refl;
      near = λ i here. split_on_bool (i == q)
          (λ t. let same = ap (λ j. top (w.nodes j)) (eqb-true i q t) in omega arith)
          (λ f. let stored = (b.0.each i here f).stored_ in omega arith);
      left_ = omega arith;
    }) name there in
    let v = many_rounds k w in
    let image = log_image_at (w.nodes q).core.log r.high in
    let s = stays_rounds r (Stands rules r last total image) (stands_stays rules r last total image) k w (record { quiet = quiet; starts = starts; told = refl }) in
    let sent = s.quiet.lasts name in
    let line = line_of v s.quiet.events s.quiet.run_ in
    let is : after_rounds k w ≡ v = rounds_are k (record { world = w; events = [] }) in
    subst (λ (u : World). HasNoPending (u.nodes name)) (sym is) (all_answered (v.nodes name) line (omega arith))
  where
    line_of : (v : World) (es : List Event) → v ≡ run rules es → unsettled_sends_are_in_line (v.nodes name).sends.last (v.nodes name).sends.queue ≡ true
    line_of v es is = subst (λ (u : World). unsettled_sends_are_in_line (u.nodes name).sends.last (u.nodes name).sends.queue ≡ true) (sym is)
        ((run_sends_have_gone_out rules es may).lined name).line

pub sends_are_answered : SendsAreAnswered
sends_are_answered rules events place more may low lawful repair asks =
    sends_are_answered_where_lists_agree rules events place more may low repair (repairable_lists_agree rules events place may low lawful repair)
    (starts_first rules events place may low lawful repair) asks
