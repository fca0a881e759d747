-- Each name's log is what it took, as they are read.
use Rattle.am_trace_laws.proofs.Words.{◌≡◌, ℕ, zero, suc, ◌+◌, ◌*◌, ◌/◌, ◌%◌, ◌<◌, ◌≤◌, ◌==◌, nat_lt, Bool, true, false, if◌then◌else◌, List, [], ◌∷◌, ◌++◌}
use Rattle.am_trace_laws.proofs.Words.{length, refl, sym, ap, ap₂, ◌∙◌, arith, subst, Some, None, slice_get, append-nil, append_assoc, length-append, All}
use Rattle.am_trace_laws.proofs.Words.{flat_map-append, map-append, and_from, nat_tests, All-head, All-tail, Rules, Entry, Outcome, split_on_bool, Act, Record, acting_name_of_record}
use Rattle.am_trace_laws.proofs.Words.{entry_taken_by_outcome, entries_given_to, deliveries, same, has_log_by_status, entry_text, World, logs, Line, or_else, lines_of, count_of, is_line}
use Rattle.am_trace_laws.proofs.Words.{first_unlogged, first_untaken, count_of_name_is_length, IsAnswerOfAct, IsSound, take_in, take_lines_of, log_in, logs_in}
use Rattle.am_trace_laws.proofs.{Outcomes.same_text_as_itself, Sends.lines_of_appended_lines, Logs.name_by_rank, Logs.log_of_name_in_world, Logs.logs_of_names_in_world}
use Rattle.am_base.specs.declared.outcome.Outcome.TheVariants as said
use Rattle.am_group.specs.declared.event.Act.TheVariants as acts
use Rattle.am_audit_defs.specs.declared.verdict.Verdict.TheVariants as verdicts
use Rattle.am_group.proofs.Places.{slice_get_of_append_back}

-- ---- as many lines

-- what was passed of each name
abbrev Passed : List Line → List Line → Type 0
Passed before done = (name : ℕ) → count_of name before ≡ length (lines_of name done)

own_line : (line : Line) (lines : List Line) → lines_of line.name (line ∷ lines) ≡ line ∷ lines_of line.name lines
own_line line lines = let own : (line.name == line.name) ≡ true = grind (arith, nat_tests) in rw own refl

passed_on : (before done : List Line) (line : Line) → Passed before done → Passed (line ∷ before) (done ++ line ∷ [])
passed_on before done line passed = λ name.
    let long = ap length (lines_of_appended_lines name done (line ∷ [])) ∙ length-append (lines_of name done) (lines_of name (line ∷ [])) in
    let h = passed name in
    split_on_bool (line.name == name)
    (λ t. let one : length (lines_of name (line ∷ [])) ≡ 1 = rw t refl in rw t (omega (arith, h, long, one)))
    (λ f. let none : length (lines_of name (line ∷ [])) ≡ 0 = rw f refl in rw f (omega (arith, h, long, none)))

-- a name's lines are those that were passed and those to come
abbrev Splits : List Line → List Line → List Line → Type 0
Splits all done lines = (name : ℕ) → lines_of name all ≡ lines_of name (done ++ lines)

splits_on : (all done lines : List Line) (line : Line) → Splits all done (line ∷ lines) → Splits all (done ++ line ∷ []) lines
splits_on all done lines line splits = λ name. splits name ∙ ap (lines_of name) (sym (append_assoc done (line ∷ []) lines))

next_there : (all done lines : List Line) (line : Line) → Splits all done (line ∷ lines)
    → slice_get (lines_of line.name all) (length (lines_of line.name done)) ≡ Some line
next_there all done lines line splits =
    let name = line.name in
    let at : length (lines_of name done) ≡ length (lines_of name done) + 0 = omega arith in
    ap (λ l. slice_get l (length (lines_of name done))) (splits name ∙ lines_of_appended_lines name done (line ∷ lines))
    ∙ ap (slice_get (lines_of name done ++ lines_of name (line ∷ lines))) at
    ∙ slice_get_of_append_back (lines_of name done) (lines_of name (line ∷ lines)) 0
    ∙ ap (λ l. slice_get l 0) (own_line line lines)

is_itself : (line : Line) → is_line (Some line) line ≡ true
is_itself line = and_from (line.number == line.number) (same line.text line.text) (grind (arith, nat_tests)) (same_text_as_itself line.text)

unlogged_none : (logs before done takes : List Line) → Passed before done → Splits logs done takes → first_unlogged logs before takes ≡ None
unlogged_none logs before done [] passed splits = refl
unlogged_none logs before done (taken ∷ takes) passed splits =
    let there : slice_get (lines_of taken.name logs) (count_of taken.name before) ≡ Some taken =
    ap (slice_get (lines_of taken.name logs)) (passed taken.name) ∙ next_there logs done takes taken splits in
    ap (λ b. or_else (if b then None else Some (verdicts.Unlogged taken.name taken.number)) (first_unlogged logs (taken ∷ before) takes))
    (ap (λ o. is_line o taken) there ∙ is_itself taken)
    ∙ unlogged_none logs (taken ∷ before) (done ++ taken ∷ []) takes (passed_on before done taken passed) (splits_on logs done takes taken splits)

untaken_none : (takes before done lines : List Line) → Passed before done → Splits takes done lines → first_untaken takes before lines ≡ None
untaken_none takes before done [] passed splits = refl
untaken_none takes before done (line ∷ lines) passed splits =
    let name = line.name in
    let h = passed name in
    let all = count_of_name_is_length name takes in
    let long = ap length (splits name ∙ lines_of_appended_lines name done (line ∷ lines)) ∙ length-append (lines_of name done) (lines_of name (line ∷ lines)) in
    let own = ap length (own_line line lines) in
    let less : count_of name before < count_of name takes = omega (arith, h, all, long, own) in
    let test : nat_lt (count_of name before) (count_of name takes) ≡ true = grind (arith, nat_tests) in
    ap (λ b. or_else (if b then None else Some (verdicts.Untaken name line.number)) (first_untaken takes (line ∷ before) lines)) test
    ∙ untaken_none takes (line ∷ before) (done ++ line ∷ []) lines (passed_on before done line passed) (splits_on takes done lines line splits)

pub first_unlogged_of_same_lines : (logs takes : List Line) → ((name : ℕ) → lines_of name takes ≡ lines_of name logs) → first_unlogged logs [] takes ≡ None
first_unlogged_of_same_lines logs takes is = unlogged_none logs [] [] takes (λ name. refl) (λ name. sym (is name))

pub first_untaken_of_same_lines : (logs takes : List Line) → ((name : ℕ) → lines_of name takes ≡ lines_of name logs) → first_untaken takes [] logs ≡ None
first_untaken_of_same_lines logs takes is = untaken_none takes [] [] logs (λ name. refl) (λ name. is name)

-- ---- what was taken

took_lines : (rules : Rules) (name who : ℕ) (act : Act) (outcome : Outcome) → IsAnswerOfAct act outcome
    → lines_of name (take_in rules who act outcome) ≡ log_in rules name (if who == name then entry_taken_by_outcome outcome else [])
took_lines rules name who act (said.Took number entry) answer =
    ap (λ a. lines_of name (take_in rules who a (said.Took number entry))) answer.0
    ∙ split_on_bool (who == name)
    (λ t.
    let is : who ≡ name = grind (arith, nat_tests) in
    rw t (ap (λ (n : ℕ). record { name = n; number = number; text = entry_text rules entry } ∷ []) is))
    (λ f. rw f refl)
took_lines rules name who act outcome answer = none_by act (who == name)
  where
    none_by : (a : Act) (b : Bool) → lines_of name (take_in rules who a outcome) ≡ log_in rules name (if b then entry_taken_by_outcome outcome else [])
    none_by acts.Take true = refl
    none_by acts.Take false = refl
    none_by _ true = refl
    none_by _ false = refl

pub name_takes_are_its_log : (rules : Rules) (name : ℕ) (records : List Record) → All IsSound records
    → lines_of name (take_lines_of rules records) ≡ log_in rules name (deliveries records name)
name_takes_are_its_log rules name [] sound = refl
name_takes_are_its_log rules name (r ∷ rs) sound =
    lines_of_appended_lines name (take_in rules (acting_name_of_record r) r.event.act r.outcome) (take_lines_of rules rs)
    ∙ ap₂ (λ (xs ys : List Line). xs ++ ys)
    (took_lines rules name (acting_name_of_record r) r.event.act r.outcome (All-head IsSound r rs sound).answer)
    (name_takes_are_its_log rules name rs (All-tail IsSound r rs sound))
    ∙ sym (map-append _ (entries_given_to name r) (deliveries rs name))

-- ---- the logs

log_lines : (rules : Rules) (name who : ℕ) (given : List (ℕ × Entry)) → lines_of name (log_in rules who given) ≡
    (if who == name then log_in rules who given else [])
log_lines rules name who [] = split_on_bool (who == name) (λ t. rw t refl) (λ f. rw f refl)
log_lines rules name who (one ∷ given) = split_on_bool (who == name)
    (λ t. let rest = rw t at (log_lines rules name who given) in
    rw t (ap (λ (l : List Line). record { name = who; number = one.0; text = entry_text rules one.1 } ∷ l) rest))
    (λ f. let rest = rw f at (log_lines rules name who given) in rw f rest)

one_log : (rules : Rules) (w : World) (name who : ℕ) → lines_of name (logs_in rules (log_of_name_in_world w who))
    ≡ (if has_log_by_status (w.nodes who).status then (if who == name then log_in rules who (deliveries w.records who) else []) else [])
one_log rules w name who = split_on_bool (has_log_by_status (w.nodes who).status)
    (λ t. rw t (ap (lines_of name) (append-nil (log_in rules who (deliveries w.records who))) ∙ log_lines rules name who (deliveries w.records who)))
    (λ f. rw f refl)

logs_split : (rules : Rules) (w : World) (name a n : ℕ) → lines_of name (logs_in rules (logs_of_names_in_world w a (suc n)))
    ≡ lines_of name (logs_in rules (log_of_name_in_world w (name_by_rank a))) ++ lines_of name (logs_in rules (logs_of_names_in_world w (a + 1) n))
logs_split rules w name a n =
    ap (lines_of name) (flat_map-append (λ (log : ℕ × List (ℕ × Entry)). log_in rules log.0 log.1) (log_of_name_in_world w (name_by_rank a)) (logs_of_names_in_world w (a + 1) n))
    ∙ lines_of_appended_lines name (logs_in rules (log_of_name_in_world w (name_by_rank a))) (logs_in rules (logs_of_names_in_world w (a + 1) n))

none_here : (rules : Rules) (w : World) (name who : ℕ) → (who ≡ name → ⊥) → lines_of name (logs_in rules (log_of_name_in_world w who)) ≡ []
none_here rules w name who differ =
    let test : (who == name) ≡ false = grind (arith, nat_tests) in
    one_log rules w name who ∙ ap (λ b. if has_log_by_status (w.nodes who).status then (if b then log_in rules who (deliveries w.records who) else []) else []) test
    ∙ split_on_bool (has_log_by_status (w.nodes who).status) (λ t. rw t refl) (λ f. rw f refl)

none_of : (rules : Rules) (w : World) (name a n : ℕ) → ((b : ℕ) → a ≤ b → b < a + n → name_by_rank b ≡ name → ⊥)
    → lines_of name (logs_in rules (logs_of_names_in_world w a n)) ≡ []
none_of rules w name a zero differ = refl
none_of rules w name a (suc n) differ =
    logs_split rules w name a n
    ∙ ap₂ (λ (xs ys : List Line). xs ++ ys) (none_here rules w name (name_by_rank a) (differ a (omega arith) (omega arith)))
    (none_of rules w name (a + 1) n (λ b above below. differ b (omega arith) (omega arith)))

-- a name without a list was given nothing
abbrev pub ListlessNamesGotNothing : World → Type 0
ListlessNamesGotNothing w = (name : ℕ) → has_log_by_status (w.nodes name).status ≡ false → deliveries w.records name ≡ []

here : (rules : Rules) (w : World) (name : ℕ) → ListlessNamesGotNothing w → lines_of name (logs_in rules (log_of_name_in_world w name)) ≡ log_in rules name (deliveries w.records name)
here rules w name listed =
    let test : (name == name) ≡ true = grind (arith, nat_tests) in
    one_log rules w name name ∙ ap (λ b. if has_log_by_status (w.nodes name).status then (if b then log_in rules name (deliveries w.records name) else []) else []) test
    ∙ split_on_bool (has_log_by_status (w.nodes name).status)
    (λ t. rw t refl)
    (λ f. rw f (ap (log_in rules name) (sym (listed name f))))

same_rank : (a b : ℕ) → a < 256 → b < 256 → a < b → name_by_rank b ≡ name_by_rank a → ⊥
same_rank a b low small less same =
    let x : a / 16 < 16 = omega arith in
    let y : b / 16 < 16 = omega arith in
    omega arith

at_rank : (rules : Rules) (w : World) (a n rank : ℕ) → ListlessNamesGotNothing w → a ≤ rank → rank < a + n → a + n ≤ 256
    → lines_of (name_by_rank rank) (logs_in rules (logs_of_names_in_world w a n)) ≡ log_in rules (name_by_rank rank) (deliveries w.records (name_by_rank rank))
at_rank rules w a zero rank listed above below low = absurd (omega arith)
at_rank rules w a (suc n) rank listed above below low = split_on_bool (a == rank)
    (λ t.
    let is : a ≡ rank = grind (arith, nat_tests) in
    let name = name_by_rank rank in
    logs_split rules w name a n
    ∙ ap₂ (λ (xs ys : List Line). xs ++ ys)
    (ap (λ (k : ℕ). lines_of name (logs_in rules (log_of_name_in_world w (name_by_rank k)))) is ∙ here rules w name listed)
    (none_of rules w name (a + 1) n (λ b up down. same_rank rank b (omega arith) (omega arith) (omega arith)))
    ∙ append-nil (log_in rules name (deliveries w.records name)))
    (λ f.
    let other : a ≡ rank → ⊥ = λ is. grind (arith, nat_tests) in
    let more : a < rank = grind arith in
    let name = name_by_rank rank in
    logs_split rules w name a n
    ∙ ap₂ (λ (xs ys : List Line). xs ++ ys)
    (none_here rules w name (name_by_rank a) (λ same. same_rank a rank (omega arith) (omega arith) more (sym same)))
    (at_rank rules w (a + 1) n rank listed (omega arith) (omega arith) (omega arith)))

by_name : (rules : Rules) (w : World) (name : ℕ) (small : Bool) → nat_lt name 256 ≡ small → ListlessNamesGotNothing w → ((other : ℕ) → 256 ≤ other
    → deliveries w.records other ≡ []) → lines_of name (logs_in rules (logs w)) ≡ log_in rules name (deliveries w.records name)
by_name rules w name true test listed high =
    let low : name < 256 = grind (arith, nat_tests) in
    let rank = 16 * (name % 16) + name / 16 in
    let x : name / 16 < 16 = omega arith in
    let is : name_by_rank rank ≡ name = omega arith in
    subst (λ (k : ℕ). lines_of k (logs_in rules (logs w)) ≡ log_in rules k (deliveries w.records k)) is
    (at_rank rules w 0 256 rank listed (omega arith) (omega arith) (omega arith))
by_name rules w name false test listed high =
    let above : 256 ≤ name = grind (arith, nat_tests) in
    none_of rules w name 0 256 (λ b up down same.
    let x : b / 16 < 16 = omega arith in
    omega arith)
    ∙ ap (log_in rules name) (sym (high name above))

pub name_logs_are_its_log : (rules : Rules) (w : World) (name : ℕ) → ListlessNamesGotNothing w → ((other : ℕ) → 256 ≤ other → deliveries w.records other ≡ [])
    → lines_of name (logs_in rules (logs w)) ≡ log_in rules name (deliveries w.records name)
name_logs_are_its_log rules w name listed high = by_name rules w name (nat_lt name 256) refl listed high
