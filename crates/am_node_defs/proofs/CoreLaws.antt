-- A core that keeps the end of a list, one change after another.
use Rattle.am_node_defs.proofs.Words.{◌≡◌, ℕ, zero, suc, ◌+◌, ◌-◌, ◌≤◌, max, refl, sym, ◌∙◌, ap, arith, sub_self, union_of_names, Entry, Log, top_of_log, members_of_image}
use Rattle.am_node_defs.proofs.Words.{log_members_at, log_with_entry, IsEndOfLog, log_above, CoreState, CoreKeepsEndOf, CoreChangesAlike, CoreAddsEntry, CoreTellsAlike, CoreRowGives, core_with_log, raise_accepted_to_told, pass_over_below_join, advance_core}
use Rattle.am_node_defs.proofs.Words.{trim_core_to, union_of_members_at, members_since_accepted, TellsTheSame}
use Rattle.am_node_defs.proofs.Ends.{ends_tell_the_same_list, top_of_end_is_top, image_at_end_is_image, end_stays_by_push, end_stays_by_trim, log_is_own_end}

pub kept_end_tells_the_same : (all : Log) (c : CoreState) → CoreKeepsEndOf all c → TellsTheSame all c.log
kept_end_tells_the_same all c s = ends_tell_the_same_list all c.log s.kept

pub untrimmed_core_keeps_own_log : (c : CoreState) → c.base ≡ c.log.start → CoreKeepsEndOf c.log c
untrimmed_core_keeps_own_log c e = record { base = e; kept = log_is_own_end c.log }

pub advance_on_whole_log : (all : Log) (c : CoreState) → CoreKeepsEndOf all c → core_with_log all (advance_core c) ≡ advance_core (core_with_log all c)
unfolding raise_accepted_to_told pass_over_below_join
advance_on_whole_log all c s = let e = top_of_end_is_top all c.log s.kept in rw e refl

pub advance_keeps_core : (c : CoreState) → CoreChangesAlike advance_core c (advance_core c)
unfolding raise_accepted_to_told pass_over_below_join
advance_keeps_core c = λ all s. (record { base = s.base; kept = s.kept }, advance_on_whole_log all c s)

pub trim_to_keeps_end : (base : ℕ) (c : CoreState) → c.base ≤ base → base ≤ top_of_log c.log → CoreChangesAlike (trim_core_to base) c (record c { log = log_above c.log base; base = base })
trim_to_keeps_end base c low high = λ all s.
    let at = s.base in
    let most : base ≡ max c.base base = omega arith in
    (record { base = refl; kept = end_stays_by_trim all c.log base s.kept (omega arith) high }, ap (λ (b : ℕ). record (core_with_log all c) { base = b }) most)

pub trim_to_lower_base_keeps : (base : ℕ) (c : CoreState) → base ≤ c.base → CoreChangesAlike (trim_core_to base) c c
trim_to_lower_base_keeps base c low = λ all s.
    let most : c.base ≡ max c.base base = omega arith in
    (s, ap (λ (b : ℕ). record (core_with_log all c) { base = b }) most)

pub push_adds_entry_to_core : (e : Entry) (c : CoreState) → CoreAddsEntry e c (record c { log = log_with_entry c.log e })
push_adds_entry_to_core e c = λ all s. (record { base = s.base; kept = end_stays_by_push all c.log e s.kept }, refl)

pub keeping_changes_follow : (f g : CoreState → CoreState) (a b c : CoreState) → CoreChangesAlike f a b → CoreChangesAlike g b c → CoreChangesAlike (λ m. g (f m)) a c
keeping_changes_follow f g a b c first second = λ all s.
    let one = first all s in
    let two = second all one.0 in
    (two.0, two.1 ∙ ap g one.1)

pub change_then_reading_sends : {A : Type 0} (f : CoreState → CoreState) (g : CoreState → A) (a b : CoreState) (x : A) → CoreChangesAlike f a b → CoreTellsAlike g b x → CoreTellsAlike (λ m. g (f m)) a x
change_then_reading_sends f g a b x first told = λ all s.
    let one = first all s in
    told all one.0 ∙ ap g one.1

pub change_then_row_makes : {A : Type 0} (f : CoreState → CoreState) (row told : CoreState → A) (a b c : CoreState) → CoreChangesAlike f a b → CoreRowGives row b told c
    → CoreRowGives (λ m. row (f m)) a told c
change_then_row_makes f row told a b c first next = λ all s.
    let one = first all s in
    let two = next all one.0 in
    (two.0, two.1, ap row (sym one.1) ∙ two.2)

pub push_then_row_makes : {A : Type 0} (e : Entry) (row told : CoreState → A) (a b c : CoreState) → CoreAddsEntry e a b → CoreRowGives row b told c
    → CoreRowGives (λ m. row (record m { log = log_with_entry m.log e })) a told c
push_then_row_makes e row told a b c first next = λ all s.
    let one = first all s in
    let two = next (log_with_entry all e) one.0 in
    (two.0, two.1, ap row (sym one.1) ∙ two.2)

pub row_then_change_makes : {A : Type 0} (f : CoreState → CoreState) (row told : CoreState → A) (a b c : CoreState) → CoreRowGives row a (λ m. told (f m)) b → CoreChangesAlike f b c
    → CoreRowGives row a told c
row_then_change_makes f row told a b c first next = λ all s.
    let one = first all s in
    let two = next one.0 one.1 in
    (one.0, two.0, one.2 ∙ ap told (sym two.1))

-- the unions, one number more, and those of the whole list
pub unions_with_next_number : (log : Log) (from number : ℕ) → from ≤ number
    → union_of_members_at log from (number + 1 - from) ≡ union_of_names (union_of_members_at log from (number - from)) (log_members_at log (number + 1))
unfolding union_of_members_at
unions_with_next_number log from number h =
    let next : number + 1 - from ≡ suc (number - from) = omega arith in
    let at : from + suc (number - from) ≡ number + 1 = omega arith in
    ap (union_of_members_at log from) next ∙ ap (λ k. union_of_names (union_of_members_at log from (number - from)) (log_members_at log k)) at

pub unions_of_one_number : (log : Log) (from : ℕ) → union_of_members_at log from (from - from) ≡ log_members_at log from
unfolding union_of_members_at
unions_of_one_number log from = ap (union_of_members_at log from) (sub_self from)

unions_whole : (all kept : Log) (from more : ℕ) → IsEndOfLog all kept → kept.start ≤ from → union_of_members_at kept from more ≡ union_of_members_at all from more
unfolding union_of_members_at
unions_whole all kept from zero is h = ap members_of_image (image_at_end_is_image all kept from is h)
unions_whole all kept from (suc more) is h =
    let at = image_at_end_is_image all kept (from + suc more) is (omega arith) in
    ap (λ a. union_of_names a (log_members_at kept (from + suc more))) (unions_whole all kept from more is h)
    ∙ ap (λ i. union_of_names (union_of_members_at all from more) (members_of_image i)) at

pub since_accepted_reads_kept_end : (c : CoreState) → c.base ≤ c.acc → CoreTellsAlike members_since_accepted c (members_since_accepted c)
since_accepted_reads_kept_end c h = λ all s.
    let at = s.base in
    unions_whole all c.log c.acc (top_of_log c.log - c.acc) s.kept (omega arith) ∙ ap (λ t. union_of_members_at all c.acc (t - c.acc)) (top_of_end_is_top all c.log s.kept)

pub ruleset unions_rules = (unions_with_next_number, unions_of_one_number, since_accepted_reads_kept_end)

pub ruleset core_change_rules = (advance_keeps_core, trim_to_keeps_end, trim_to_lower_base_keeps, push_adds_entry_to_core)

pub ruleset change_chain_rules = (keeping_changes_follow, change_then_reading_sends, change_then_row_makes, push_then_row_makes, row_then_change_makes)
