-- Lines of which none is bad begin a text.
use Rattle.std.proofs.Common.{◌≡◌, ℕ, ◌+◌, ◌<◌, ◌≤◌, ◌==◌, ◌&&◌, List, [], ◌∷◌, ◌++◌, length}
use Rattle.std.proofs.Common.{Option, Some, None, Result, Ok, Err, IsErr, Bool, true, false, cond}
use Rattle.std.proofs.Common.{refl, sym, subst, ap, ◌∙◌, arith, ◌⊎◌, ⊎_elim, inl, inr}
use Rattle.std.specs.Prelude.{codes, slice_index}
use Rattle.am_text_defs.specs.declared.fault.FieldFault.{FieldFault}
use Rattle.am_text_defs.specs.declared.fault.FieldFault.TheVariants.{Form}
use Rattle.am_text_defs.specs.Fields.{cut_of, same, and_then, split_text, number_up_to, number_in_text, name_in_text}
use Rattle.am_audit_defs.specs.declared.line.TextStage.{TextStage}
use Rattle.am_audit_defs.specs.declared.line.TextStage.TheVariants as stages
use Rattle.am_audit_defs.specs.Fields.{two_of, expect, outline_of, send_of, answer_fields_of, take_of, return_of}
use Rattle.am_audit_defs.specs.Lines.{Reading, nothing_read, may_event, may_list, may_log, is_text_end}
use Rattle.am_audit_defs.specs.Lines.{mark_cut, with_send, with_sent_answer, with_take, with_return, counted}
use Rattle.am_audit_defs.specs.Lines.{with_event, add_event, add_entry, logged, add_log, add_end, add_void, add_line, read_on, read_lines, read_behind, read_text}
use Rattle.am_audit_defs.specs.Agreement.{lines_before_rest, HasNoNewline, AreLines}
use Rattle.am_audit_defs.proofs.Bounds.{chained_result_is_ok, chosen_branch_of_value, guarded_result_is_ok, same_result_same_value}
use Rattle.am_audit_defs.proofs.Beginnings.{cut_of_line_at_newline, first_byte_before_newline}
use Rattle.am_audit_defs.proofs.Texts.{read_lines_takes_good_line, read_lines_at_bad_line}

-- ---- the list is empty as long as events may come

abbrev IsFresh : Reading → Type 0
IsFresh s = s.stage ≡ stages.Events → s.group ≡ []

-- the same of what a line left
abbrev Keeps : Reading → Reading → Type 0
Keeps s t = (t.stage ≡ s.stage) × (t.group ≡ s.group)

fresh_kept : (s t : Reading) → Keeps s t → IsFresh s → IsFresh t
fresh_kept s t keeps fresh is = keeps.1 ∙ fresh (sym keeps.0 ∙ is)

send_keeps : (s : Reading) (r : Result (ℕ × ℕ × List ℕ) FieldFault) → Keeps s (with_send s r)
send_keeps s (Ok found) = (refl, refl)
send_keeps s (Err fault) = (refl, refl)

answer_keeps : (s : Reading) (r : Result (ℕ × ℕ × ℕ) FieldFault) → Keeps s (with_sent_answer s r)
answer_keeps s (Ok found) = (refl, refl)
answer_keeps s (Err fault) = (refl, refl)

take_keeps : (s : Reading) (r : Result (ℕ × ℕ × List ℕ) FieldFault) → Keeps s (with_take s r)
take_keeps s (Ok found) = (refl, refl)
take_keeps s (Err fault) = (refl, refl)

return_keeps : (s : Reading) (r : Result (ℕ × ℕ) FieldFault) → Keeps s (with_return s r)
return_keeps s (Ok found) = (refl, refl)
return_keeps s (Err fault) = (refl, refl)

either_keeps : (s : Reading) (b : Bool) (t u : Reading) → Keeps s t → Keeps s u → Keeps s (cond b t u)
either_keeps s true t u first second = first
either_keeps s false t u first second = second

counted_keeps : (s : Reading) (act : Result (List ℕ × List ℕ) FieldFault) (outcome : List ℕ) → Keeps s (counted s act outcome)
unfolding counted
counted_keeps s (Err fault) outcome = (refl, refl)
counted_keeps s (Ok act) outcome =
    either_keeps s (same act.0 (codes "send")) _ _ (send_keeps s (send_of act.1 outcome))
    (either_keeps s (same act.0 (codes "done")) _ _ (answer_keeps s (answer_fields_of act.1 outcome))
    (either_keeps s (same act.0 (codes "take")) _ _ (take_keeps s (take_of act.1 outcome))
    (either_keeps s (same act.0 (codes "return")) _ _ (return_keeps s (return_of act.1 outcome)) (refl, refl))))

event_fresh : (s t : Reading) (act : List ℕ) (behind : Option (List ℕ)) → with_event s act behind ≡ Ok t → IsFresh s → IsFresh t
event_fresh s t act None is fresh = cc
event_fresh s t act (Some behind) is fresh =
    let more = record s { events = s.events + 1 } in
    let same_as : counted more (two_of act) (mark_cut 124 behind).0 ≡ t = same_result_same_value _ t (Ok (counted more (two_of act) (mark_cut 124 behind).0)) refl is in
    subst IsFresh same_as (fresh_kept more (counted more (two_of act) (mark_cut 124 behind).0) (counted_keeps more (two_of act) (mark_cut 124 behind).0) fresh)

-- a line after the events leaves none to come
abbrev IsPast : Reading → Type 0
IsPast t = t.stage ≡ stages.Events → ⊥

past_fresh : (t : Reading) → IsPast t → IsFresh t
past_fresh t past is = absurd (past is)

add_event_fresh : (s t : Reading) (number rest : List ℕ) → add_event s number rest ≡ Ok t → IsFresh s → IsFresh t
unfolding add_event
add_event_fresh s t number rest is fresh =
    let n = chained_result_is_ok (number_in_text number) _ t is in
    let right = guarded_result_is_ok (may_event s.stage && (n.0 == s.events + 1)) (with_event s (mark_cut 58 rest).0 (mark_cut 58 rest).1) Form t n.2 in
    event_fresh s t (mark_cut 58 rest).0 (mark_cut 58 rest).1 right.1 fresh

add_entry_past : (s t : Reading) (rest : List ℕ) → add_entry s rest ≡ Ok t → IsPast t
unfolding add_entry
add_entry_past s t rest is =
    let first = chained_result_is_ok (two_of rest) _ t is in
    let n = chained_result_is_ok (number_in_text first.0.0) _ t first.2 in
    let right = guarded_result_is_ok (may_list s.stage && (n.0 == length s.group + 1))
    (and_then (outline_of first.0.1) (λ entry. Ok (record s { stage = stages.List; group = s.group ++ first.0.1 ∷ [] }))) Form t n.2 in
    let entry = chained_result_is_ok (outline_of first.0.1) (λ entry. Ok (record s { stage = stages.List; group = s.group ++ first.0.1 ∷ [] })) t right.1 in
    let same_as = same_result_same_value (record s { stage = stages.List; group = s.group ++ first.0.1 ∷ [] }) t (Ok
    (record s { stage = stages.List; group = s.group ++ first.0.1 ∷ [] })) refl entry.2 in
    λ events. let no : stages.List ≡ stages.Events = ap (λ (u : Reading). u.stage) same_as ∙ events in cc

logged_past : (s t : Reading) (name : ℕ) (rest : List ℕ) → logged s name rest ≡ Ok t → IsPast t
unfolding logged
logged_past s t name rest is =
    ⊎_elim
    (λ empty. let same_as = same_result_same_value (record s { stage = stages.Logs }) t (Ok (record s { stage = stages.Logs })) refl empty.1 in
    λ events. let no : stages.Logs ≡ stages.Events = ap (λ (u : Reading). u.stage) same_as ∙ events in cc)
    (λ more.
    let first = chained_result_is_ok (two_of rest) _ t more.1 in
    let n = chained_result_is_ok (number_in_text first.0.0) _ t first.2 in
    let after = record s { stage = stages.Logs; logs = s.logs ++ record { name = name; number = n.0; text = first.0.1 } ∷ [] } in
    let entry = chained_result_is_ok (outline_of first.0.1) (λ entry. Ok after) t n.2 in
    let same_as = same_result_same_value after t (Ok after) refl entry.2 in
    λ events. let no : stages.Logs ≡ stages.Events = ap (λ (u : Reading). u.stage) same_as ∙ events in cc)
    (chosen_branch_of_value (same rest (codes "empty")) _ _ _ is)

add_log_past : (s t : Reading) (rest : List ℕ) → add_log s rest ≡ Ok t → IsPast t
unfolding add_log
add_log_past s t rest is =
    let first = chained_result_is_ok (two_of rest) _ t is in
    let name = chained_result_is_ok (name_in_text first.0.0) _ t first.2 in
    logged_past s t name.0 first.0.1 (guarded_result_is_ok (may_log s.stage) (logged s name.0 first.0.1) Form t name.2).1

add_end_past : (s t : Reading) (void_from : Option ℕ) → add_end s void_from ≡ Ok t → IsPast t
add_end_past s t void_from is =
    let after = record s { stage = stages.End; void_from = void_from } in
    let same_as = same_result_same_value after t (Ok after) refl (guarded_result_is_ok (may_log s.stage) (Ok after) Form t is).1 in
    λ events. let no : stages.End ≡ stages.Events = ap (λ (u : Reading). u.stage) same_as ∙ events in cc

add_void_past : (s t : Reading) (rest : List ℕ) → add_void s rest ≡ Ok t → IsPast t
unfolding add_void
add_void_past s t rest is =
    let first = chained_result_is_ok (two_of rest) _ t is in
    let checked = chained_result_is_ok (expect (codes "from") first.0.0) _ t first.2 in
    let n = chained_result_is_ok (number_in_text first.0.1) (λ n. add_end s (Some n)) t checked.2 in
    add_end_past s t (Some n.0) n.2

add_line_fresh : (s t : Reading) (line : List ℕ) → add_line s line ≡ Ok t → IsFresh s → IsFresh t
unfolding add_line
add_line_fresh s t line is fresh =
    ⊎_elim (λ c. past_fresh t (add_end_past s t None c.1))
    (λ c.
    let first = chained_result_is_ok (two_of line) _ t c.1 in
    ⊎_elim (λ d. past_fresh t (add_entry_past s t first.0.1 d.1))
    (λ d. ⊎_elim (λ e. past_fresh t (add_log_past s t first.0.1 e.1))
    (λ e. ⊎_elim (λ f. past_fresh t (add_void_past s t first.0.1 f.1))
    (λ f. add_event_fresh s t first.0.0 first.0.1 f.1 fresh)
    (chosen_branch_of_value (same first.0.0 (codes "void")) _ _ _ e.1))
    (chosen_branch_of_value (same first.0.0 (codes "log")) _ _ _ d.1))
    (chosen_branch_of_value (same first.0.0 (codes "group")) _ _ _ first.2))
    (chosen_branch_of_value (same line (codes "lawful")) _ _ _ is)

-- ---- lines that are all taken

abbrev Passes : Reading → List (List ℕ) → Reading → Type 0
Passes s [] t = s ≡ t
Passes s (line ∷ lines) t = (u : Reading) × (add_line s line ≡ Ok u) × Passes u lines t

passes_fresh : (s t : Reading) (lines : List (List ℕ)) → Passes s lines t → IsFresh s → IsFresh t
passes_fresh s t [] passes fresh = subst IsFresh passes fresh
passes_fresh s t (line ∷ lines) passes fresh = passes_fresh passes.0 t lines passes.2 (add_line_fresh s passes.0 line passes.1 fresh)

passes_read : (number : ℕ) (s t : Reading) (lines : List (List ℕ)) (more : List ℕ) → AreLines lines → Passes s lines t
    → read_lines number s (split_text 10 (lines_before_rest lines more)) ≡ read_lines (number + length lines) t (split_text 10 more)
passes_read number s t [] more whole passes =
    ap (λ (u : Reading). read_lines number u (split_text 10 more)) passes ∙ ap (λ (n : ℕ). read_lines n t (split_text 10 more)) (omega arith)
passes_read number s t (line ∷ lines) more whole passes =
    read_lines_takes_good_line number s passes.0 (line ++ 10 ∷ lines_before_rest lines more) line (lines_before_rest lines more) (cut_of_line_at_newline line (lines_before_rest lines more) whole.0) passes.1
    ∙ passes_read (number + 1) passes.0 t lines more whole.1 passes.2
    ∙ ap (λ (n : ℕ). read_lines n t (split_text 10 more)) (omega arith)

abbrev IsBad : ℕ → Reading → List (List ℕ) → Type 0
IsBad number s lines = (line : ℕ) × (line < number + length lines) × (read_lines number s (split_text 10 (lines_before_rest lines [])) ≡ Err line)

pass_by : (number : ℕ) (s : Reading) (line : List ℕ) (lines : List (List ℕ)) (r : Result Reading FieldFault) → add_line s line ≡ r → HasNoNewline line
    → ((u : Reading) → ((t : Reading) × Passes u lines t) ⊎ IsBad (number + 1) u lines)
    → ((t : Reading) × Passes s (line ∷ lines) t) ⊎ IsBad number s (line ∷ lines)
pass_by number s line lines (Ok u) is whole later = ⊎_elim
    (λ found. inl (found.0, (u, is, found.1)))
    (λ bad. inr (
      bad.0,
      omega (arith, bad.1),
      read_lines_takes_good_line number s u (line ++ 10 ∷ lines_before_rest lines []) line (lines_before_rest lines []) (cut_of_line_at_newline line (lines_before_rest lines []) whole) is ∙ bad.2,
    ))
    (later u)
pass_by number s line lines (Err fault) is whole later = inr (
  number,
  omega arith,
  read_lines_at_bad_line number s (line ++ 10 ∷ lines_before_rest lines []) line (lines_before_rest lines []) (cut_of_line_at_newline line (lines_before_rest lines []) whole) (subst IsErr (sym is) refl),
)

pass : (number : ℕ) (s : Reading) (lines : List (List ℕ)) → AreLines lines → ((t : Reading) × Passes s lines t) ⊎ IsBad number s lines
pass number s [] whole = inl (s, refl)
pass number s (line ∷ lines) whole = pass_by number s line lines (add_line s line) refl whole.0 (λ u. pass (number + 1) u lines whole.1)

-- ---- how a text may go on

-- what it takes to end a text
abbrev ending : TextStage → List ℕ
ending stages.Events = codes "group 1 join 0" ++ 10 ∷ codes "lawful" ++ 10 ∷ []
ending stages.List = codes "lawful" ++ 10 ∷ []
ending stages.Logs = codes "lawful" ++ 10 ∷ []
ending stages.End = []

lawful_ends : (number : ℕ) (t : Reading) → may_log t.stage ≡ true → (s : Reading) × (read_lines number t (split_text 10 (codes "lawful" ++ 10 ∷ [])) ≡ Ok s)
unfolding add_line
lawful_ends number t may =
    let after = record t { stage = stages.End; void_from = None } in
    (after, ap (λ b. read_on number (cond b (Ok after) (Err Form)) (λ u. read_lines (number + 1) u ([] ∷ []))) may)

-- the reading with a first entry
abbrev with_join : Reading → Reading
with_join t = record t { stage = stages.List; group = codes "join 0" ∷ [] }

join_taken : (t : Reading) → t.stage ≡ stages.Events → t.group ≡ [] → add_line t (codes "group 1 join 0") ≡ Ok (with_join t)
unfolding add_line add_entry outline_of number_up_to name_in_text
join_taken t events none =
    ap (λ (st : TextStage). cond (may_list st && (1 == length t.group + 1)) (Ok
    (record t { stage = stages.List; group = t.group ++ codes "join 0" ∷ [] })) (Err Form)) events
    ∙ ap (λ (g : List (List ℕ)). cond (1 == length g + 1) (Ok (record t { stage = stages.List; group = g ++ codes "join 0" ∷ [] })) (Err Form)) none

ends_by : (number : ℕ) (t : Reading) (stage : TextStage) → t.stage ≡ stage → IsFresh t → (s : Reading) × (read_lines number t (split_text 10 (ending stage)) ≡ Ok s)
ends_by number t stages.Events is fresh =
    let rest = lawful_ends (number + 1) (with_join t) refl in
    (rest.0, ap (λ r. read_on number r (λ u. read_lines (number + 1) u (codes "lawful" ∷ [] ∷ []))) (join_taken t is (fresh is)) ∙ rest.1)
ends_by number t stages.List is fresh = lawful_ends number t (ap may_log is)
ends_by number t stages.Logs is fresh = lawful_ends number t (ap may_log is)
ends_by number t stages.End is fresh = (t, ap (λ (st : TextStage). cond (is_text_end st) (Ok t) (Err number)) is)

fresh_first : IsFresh nothing_read
fresh_first is = refl

-- lines of which none is bad go on to a text
goes_on : (number : ℕ) (lines : List (List ℕ)) → AreLines lines → ((line : ℕ)
    → read_lines number nothing_read (split_text 10 (lines_before_rest lines [])) ≡ Err line → number + length lines ≤ line)
    → (more : List ℕ) × (s : Reading) × (read_lines number nothing_read (split_text 10 (lines_before_rest lines more)) ≡ Ok s)
goes_on number lines whole good = ⊎_elim
    (λ found.
    let end = ends_by (number + length lines) found.0 found.0.stage refl (passes_fresh nothing_read found.0 lines found.1 fresh_first) in
    (ending found.0.stage, end.0, passes_read number nothing_read found.0 lines (ending found.0.stage) whole found.1 ∙ end.1))
    (λ bad. absurd (omega (arith, bad.1, good bad.0 bad.2)))
    (pass number nothing_read lines whole)

text_by : (first : List ℕ) (lines : List (List ℕ)) (b : Bool) → HasNoNewline first → AreLines lines
    → ((line : ℕ) → cond b (read_behind (cut_of 10 (first ++ 10 ∷ lines_before_rest lines [])).1) (read_lines 1 nothing_read (split_text 10
    (first ++ 10 ∷ lines_before_rest lines []))) ≡ Err line
    → length lines + 1 < line)
    → (more : List ℕ) × (s : Reading)
    × (cond b (read_behind (cut_of 10 (first ++ 10 ∷ lines_before_rest lines more)).1) (read_lines 1 nothing_read (split_text 10
    (first ++ 10 ∷ lines_before_rest lines more))) ≡ Ok s)
text_by first lines true one whole good =
    let rest = goes_on 2 lines whole (λ line bad. omega (
      arith,
      good line
          (ap (λ (c : List ℕ × Option (List ℕ)). read_behind c.1) (cut_of_line_at_newline first (lines_before_rest lines []) one) ∙ bad),
    )) in
    (rest.0, rest.1, ap (λ (c : List ℕ × Option (List ℕ)). read_behind c.1) (cut_of_line_at_newline first (lines_before_rest lines rest.0) one) ∙ rest.2)
text_by first lines false one whole good = goes_on 1 (first ∷ lines) (one, whole) (λ line bad. omega (arith, good line bad))

pub good_lines_begin_text : (lines : List (List ℕ)) → AreLines lines → ((line : ℕ) → read_text (lines_before_rest lines []) ≡ Err line → length lines < line)
    → (more : List ℕ) × (s : Reading) × (read_text (lines_before_rest lines more) ≡ Ok s)
good_lines_begin_text [] whole good =
    let end = ends_by 1 nothing_read stages.Events refl fresh_first in
    (ending stages.Events, end.0, end.1)
good_lines_begin_text (first ∷ lines) whole good =
    let found = text_by first lines (slice_index (first ++ 10 ∷ lines_before_rest lines []) 0 == 123) whole.0 whole.1 (λ line bad. omega (arith, good line bad)) in (
      found.0,
      found.1,
      ap (λ (n : ℕ). cond (n == 123) (read_behind (cut_of 10 (first ++ 10 ∷ lines_before_rest lines found.0)).1)
          (read_lines 1 nothing_read (split_text 10 (first ++ 10 ∷ lines_before_rest lines found.0)))) (first_byte_before_newline first (lines_before_rest lines found.0) (lines_before_rest lines []))
          ∙ found.2,
    )
