-- What is wrong is no verdict that agrees.
use Rattle.std.proofs.Common.{◌≡◌, ℕ, ◌+◌, ◌==◌, nat_lt, List, [], ◌∷◌, Option, Some, None}
use Rattle.std.proofs.Common.{slice_get, Result, Ok, Err, Bool, true, false, cond, refl, sym, ap, ◌∙◌}
use Rattle.std.specs.Prelude.{unwrap_or}
use Rattle.am_base.specs.Lists.{blank}
use Rattle.am_base.specs.declared.image.Image.{Image}
use Rattle.am_group.specs.Journals.{item_at}
use Rattle.am_text_defs.specs.declared.fault.FieldFault.{FieldFault}
use Rattle.am_text_defs.specs.Fields.{same}
use Rattle.am_audit_defs.specs.declared.verdict.Verdict.{Verdict}
use Rattle.am_audit_defs.specs.declared.verdict.Verdict.TheVariants as verdicts
use Rattle.am_audit_defs.specs.declared.line.AnsweredSend.{AnsweredSend}
use Rattle.am_audit_defs.specs.Fields.{outline_of, data_in}
use Rattle.am_audit_defs.specs.Lines.{Line, Reading}
use Rattle.am_audit_defs.specs.Verdicts.{or_else, last_of, first_with, first_sent, gap_at, differs_at, twice_by}
use Rattle.am_audit_defs.specs.Verdicts.{twice_at, fault_at, first_fault, is_text, first_astray, stands, is_at, first_lost}
use Rattle.am_audit_defs.specs.Verdicts.{may_begin, early_at, first_early, fits_at, image_after}
use Rattle.am_audit_defs.specs.Verdicts.{first_misfit, first_skipped, first_asked, body_at, unsent_at, first_unsent}
use Rattle.am_audit_defs.specs.Verdicts.{lines_of, count_of, is_line, first_unlogged, first_untaken, wrong_lists, wrong_events, verdict_of, is_right}
use Rattle.am_audit_defs.specs.Agreement.{Lists, Agreed}
use Rattle.am_audit_defs.proofs.Meaning.{lists_not_wrong_list}
use Rattle.am_audit_defs.proofs.Deeds.{events_not_wrong_agree}

-- a verdict that is found agrees not
abbrev Wrong : Option Verdict → Type 0
Wrong None = Unit {0}
Wrong (Some verdict) = is_right verdict ≡ false

wrong_or : (o p : Option Verdict) → Wrong o → Wrong p → Wrong (or_else o p)
wrong_or None p first second = second
wrong_or (Some verdict) p first second = first

wrong_if : (b : Bool) (verdict : Verdict) → is_right verdict ≡ false → Wrong (cond b None (Some verdict))
wrong_if true verdict wrong = tt
wrong_if false verdict wrong = wrong

gap_wrong : (o : Option ℕ) (line : Line) → Wrong (gap_at o line)
gap_wrong None line = tt
gap_wrong (Some last) line = wrong_if (last + 1 == line.number) (verdicts.Gap line.name line.number) refl

differs_wrong : (o : Option Line) (line : Line) → Wrong (differs_at o line)
differs_wrong None line = tt
differs_wrong (Some first) line = wrong_if (same first.text line.text) (verdicts.Differs first.name line.name line.number) refl

by_wrong : (o : Option ℕ) (from req number : ℕ) → Wrong (twice_by o from req number)
by_wrong None from req number = tt
by_wrong (Some first) from req number = wrong_if (first == number) (verdicts.Twice from req) refl

twice_wrong : (before : List Line) (sent : Result (ℕ × ℕ × List ℕ) FieldFault) (number : ℕ) → Wrong (twice_at before sent number)
twice_wrong before (Err fault) number = tt
twice_wrong before (Ok sent) number = by_wrong (first_sent sent.0 sent.1 before) sent.0 sent.1 number

fault_wrong : (before lines : List Line) → Wrong (first_fault before lines)
fault_wrong before [] = tt
fault_wrong before (line ∷ lines) = wrong_or (fault_at before line) (first_fault (line ∷ before) lines)
    (wrong_or (gap_at (last_of line.name before) line) _ (gap_wrong (last_of line.name before) line)
    (wrong_or (differs_at (first_with line.number before) line) _ (differs_wrong (first_with line.number before) line)
    (twice_wrong before (data_in line.text) line.number)))
    (fault_wrong (line ∷ before) lines)

astray_wrong : (group : List (List ℕ)) (lines : List Line) → Wrong (first_astray group lines)
astray_wrong group [] = tt
astray_wrong group (line ∷ lines) = wrong_or _ (first_astray group lines)
    (wrong_if (is_text (item_at group line.number) line.text) (verdicts.Astray line.name line.number) refl) (astray_wrong group lines)

lost_wrong : (group : List (List ℕ)) (answers : List AnsweredSend) → Wrong (first_lost group answers)
lost_wrong group [] = tt
lost_wrong group (answer ∷ answers) = wrong_or _ (first_lost group answers)
    (wrong_if (is_at answer.number (stands 1 answer.name answer.req group)) (verdicts.Lost answer.name answer.req) refl) (lost_wrong group answers)

begin_wrong : (o : Option ℕ) (line : Line) → Wrong (early_at o line)
begin_wrong (Some last) line = tt
begin_wrong None line = wrong_if (may_begin line (outline_of line.text)) (verdicts.Early line.name line.number) refl

early_wrong : (before lines : List Line) → Wrong (first_early before lines)
early_wrong before [] = tt
early_wrong before (line ∷ lines) = wrong_or (early_at (last_of line.name before) line) (first_early (line ∷ before) lines)
    (begin_wrong (last_of line.name before) line) (early_wrong (line ∷ before) lines)

misfit_wrong : (number : ℕ) (image : Image) (texts : List (List ℕ)) → Wrong (first_misfit number image texts)
misfit_wrong number image [] = tt
misfit_wrong number image (text ∷ texts) = wrong_or _ (first_misfit (number + 1) (image_after number image (outline_of text)) texts)
    (wrong_if (fits_at number image (outline_of text)) (verdicts.Misfit number) refl) (misfit_wrong (number + 1) (image_after number image
    (outline_of text)) texts)

skipped_wrong : (before sends : List Line) → Wrong (first_skipped before sends)
skipped_wrong before [] = tt
skipped_wrong before (send ∷ sends) = wrong_or _ (first_skipped (send ∷ before) sends)
    (wrong_if (send.number == unwrap_or (last_of send.name before) 0 + 1) (verdicts.Skipped send.name send.number) refl) (skipped_wrong (send ∷ before) sends)

at_wrong : (sends : List Line) (sent : Result (ℕ × ℕ × List ℕ) FieldFault) → Wrong (unsent_at sends sent)
at_wrong sends (Err fault) = tt
at_wrong sends (Ok sent) = wrong_if (is_text (body_at sends (first_asked 0 sent.0 sent.1 sends)) sent.2) (verdicts.Unsent sent.0 sent.1) refl

unsent_wrong : (sends : List Line) (texts : List (List ℕ)) → Wrong (first_unsent sends texts)
unsent_wrong sends [] = tt
unsent_wrong sends (text ∷ texts) = wrong_or (unsent_at sends (data_in text)) (first_unsent sends texts) (at_wrong sends (data_in text))
    (unsent_wrong sends texts)

unlogged_wrong : (logs before takes : List Line) → Wrong (first_unlogged logs before takes)
unlogged_wrong logs before [] = tt
unlogged_wrong logs before (taken ∷ takes) = wrong_or _ (first_unlogged logs (taken ∷ before) takes)
    (wrong_if (is_line (slice_get (lines_of taken.name logs) (count_of taken.name before)) taken) (verdicts.Unlogged taken.name taken.number) refl)
    (unlogged_wrong logs (taken ∷ before) takes)

untaken_wrong : (takes before lines : List Line) → Wrong (first_untaken takes before lines)
untaken_wrong takes before [] = tt
untaken_wrong takes before (line ∷ lines) = wrong_or _ (first_untaken takes (line ∷ before) lines)
    (wrong_if (nat_lt (count_of line.name before) (count_of line.name takes)) (verdicts.Untaken line.name line.number) refl)
    (untaken_wrong takes (line ∷ before) lines)

lists_wrong : (s : Reading) → Wrong (wrong_lists s)
unfolding wrong_lists
lists_wrong s = wrong_or (first_fault [] s.logs) _ (fault_wrong [] s.logs) (wrong_or (first_astray s.group s.logs) _ (astray_wrong s.group s.logs)
    (wrong_or (first_lost s.group s.answers) _ (lost_wrong s.group s.answers)
    (wrong_or (first_early [] s.logs) _ (early_wrong [] s.logs) (misfit_wrong 1 blank s.group))))

events_wrong : (s : Reading) → Wrong (wrong_events s)
unfolding wrong_events
events_wrong s = wrong_or (first_skipped [] s.sends) _ (skipped_wrong [] s.sends) (wrong_or (first_unsent s.sends s.group) _ (unsent_wrong s.sends s.group)
    (wrong_or (first_unlogged s.logs [] s.takes) _ (unlogged_wrong s.logs [] s.takes) (untaken_wrong s.takes [] s.logs)))

-- ---- the verdicts that agree

right_lists : (o : Option Verdict) (other verdict : Verdict) → Wrong o → unwrap_or o other ≡ verdict → is_right verdict ≡ true → (o ≡ None) × (other ≡ verdict)
right_lists None other verdict wrong is right = (refl, is)
right_lists (Some found) other verdict wrong is right =
    let other_one : is_right verdict ≡ false = ap is_right (sym is) ∙ wrong in cc

agreed_by : (s : Reading) (b : Bool) → Lists s → cond b verdicts.ListsAgree (unwrap_or (wrong_events s) verdicts.Agrees) ≡ verdicts.Agrees → Agreed s
agreed_by s true lists is = cc
agreed_by s false lists is = events_not_wrong_agree s lists (right_lists (wrong_events s) verdicts.Agrees verdicts.Agrees (events_wrong s) is refl).0

pub agreeing_verdict_means_agreed : (s : Reading) → verdict_of s ≡ verdicts.Agrees → Agreed s
unfolding verdict_of
agreeing_verdict_means_agreed s is =
    let right = right_lists (wrong_lists s) (cond (s.events == 0) verdicts.ListsAgree (unwrap_or (wrong_events s) verdicts.Agrees)) verdicts.Agrees
    (lists_wrong s) is refl in
    agreed_by s (s.events == 0) (lists_not_wrong_list s right.0) right.1

pub agreeing_lists_verdict_means_lists : (s : Reading) → verdict_of s ≡ verdicts.ListsAgree → Lists s
unfolding verdict_of
agreeing_lists_verdict_means_lists s is = lists_not_wrong_list s
    (right_lists (wrong_lists s) (cond (s.events == 0) verdicts.ListsAgree (unwrap_or (wrong_events s) verdicts.Agrees)) verdicts.ListsAgree
    (lists_wrong s) is refl).0
