-- One record more, and letters more.
use Rattle.am_run_laws.proofs.UnballotedWords.{◌≡◌, ◌≢◌, ◌⊎◌, ⊎_elim, inl, inr, ℕ, zero, suc, ◌+◌, ◌≤◌, ◌==◌, ◌&&◌, Bool, true, false, if◌then◌else◌, List, [], ◌∷◌}
use Rattle.am_run_laws.proofs.UnballotedWords.{◌++◌, length, refl, sym, ap, ◌∙◌, subst, append-nil, arith, All, flat_map, flat_map-append, nat_tests, All-head}
use Rattle.am_run_laws.proofs.UnballotedWords.{All-tail, All-append, All-weaker, Entry, Data, Outcome, Letter, Record, letter_at, acting_name_of_record, entry_taken_by_outcome, entries_given_to}
use Rattle.am_run_laws.proofs.UnballotedWords.{deliveries, slice_get_of_append_front, Node, AcceptedSend, accepted_send_of_outcome, accepted_sends, packet_heard_by_act, is_welcome, welcome_number_of_outcome, split_on_bool, IsIdle}
use Rattle.am_base.specs.declared.outcome.Outcome.TheVariants as said
use Rattle.am_run_laws.proofs.{UnballotedKept.accepted_stands_in_longer_list, Worlds.GivenAreListEntries, Worlds.WelcomeRecordTellsEarlierLetter, Worlds.AcceptedSendStandsAt}

-- ---- what an idle answer tells

pub idle_outcome_takes_nothing : (o : Outcome) → IsIdle o → entry_taken_by_outcome o ≡ []
idle_outcome_takes_nothing (said.Took number e) h = absurd h
idle_outcome_takes_nothing _ h = refl

pub idle_outcome_welcomes_nobody : (o : Outcome) → IsIdle o → welcome_number_of_outcome o ≡ []
idle_outcome_welcomes_nobody (said.Welcomed number) h = absurd h
idle_outcome_welcomes_nobody _ h = refl

pub idle_outcome_sends_nothing : (name : ℕ) (o : Outcome) → IsIdle o → accepted_send_of_outcome name o ≡ []
idle_outcome_sends_nothing name (said.Sent req number) h = absurd h
idle_outcome_sends_nothing name _ h = refl

pub idle_outcome_queues_nothing : (o : Outcome) (req : ℕ) → IsIdle o → o ≡ said.Queued req → ⊥
idle_outcome_queues_nothing (said.Queued k) req h is = absurd h
idle_outcome_queues_nothing o req h is = absurd (subst IsIdle is h)

-- ---- deliveries

pub deliveries_of_pushed_record : (records : List Record) (r : Record) (name : ℕ) → deliveries (records ++ r ∷ []) name ≡ deliveries records name ++ entries_given_to name r
deliveries_of_pushed_record records r name = flat_map-append (entries_given_to name) records (r ∷ []) ∙ ap (λ l. deliveries records name ++ l) (append-nil (entries_given_to name r))

-- a record that gives this name nothing
pub record_of_nothing_keeps_given : (list : List Entry) (acc : ℕ) (m : Node) (records : List Record) (r : Record) (name : ℕ) → entries_given_to name r ≡ []
    → GivenAreListEntries list acc m (deliveries records name) → GivenAreListEntries list acc m (deliveries (records ++ r ∷ []) name)
record_of_nothing_keeps_given list acc m records r name none h = subst (GivenAreListEntries list acc m)
    (sym (deliveries_of_pushed_record records r name ∙ ap (λ l. deliveries records name ++ l) none ∙ append-nil (deliveries records name))) h

pub record_of_other_gives_nothing : (r : Record) (name : ℕ) → acting_name_of_record r ≢ name → entries_given_to name r ≡ []
record_of_other_gives_nothing r name other = let f : (acting_name_of_record r == name) ≡ false = split_on_bool (acting_name_of_record r == name) (λ t. absurd (other (grind (arith, nat_tests)))) (λ g. g) in rw f refl

pub record_without_take_gives_nothing : (r : Record) (name : ℕ) → entry_taken_by_outcome r.outcome ≡ [] → entries_given_to name r ≡ []
record_without_take_gives_nothing r name none = split_on_bool (acting_name_of_record r == name) (λ t. rw t none) (λ f. rw f refl)

pub given_holds_in_longer_list : (list more : List Entry) (acc to : ℕ) (m : Node) (given : List (ℕ × Entry)) → acc ≤ to → GivenAreListEntries list acc m given
    → GivenAreListEntries (list ++ more) to m given
given_holds_in_longer_list list more acc to m given up h = record {
  count = h.count;
  each = λ k number e is. (let x = h.each k number e is in (x.0, accepted_stands_in_longer_list list more acc to (m.core.start + k) e up x.1));
}

-- ---- accepted sends

accepted_push : (records : List Record) (r : Record) → accepted_sends (records ++ r ∷ []) ≡ accepted_sends records ++ accepted_send_of_outcome (acting_name_of_record r) r.outcome
accepted_push records r = flat_map-append (λ x. accepted_send_of_outcome (acting_name_of_record x) x.outcome) records (r ∷ [])
    ∙ ap (λ l. accepted_sends records ++ l) (append-nil (accepted_send_of_outcome (acting_name_of_record r) r.outcome))

pub accepted_sends_in_longer_list : (list more : List Entry) (acc to : ℕ) (sends : List AcceptedSend) → acc ≤ to → All (AcceptedSendStandsAt list acc) sends
    → All (AcceptedSendStandsAt (list ++ more) to) sends
accepted_sends_in_longer_list list more acc to sends up h = All-weaker (AcceptedSendStandsAt list acc) (AcceptedSendStandsAt (list ++ more) to)
    (λ s x. (x.0, accepted_stands_in_longer_list list more acc to s.number (Data s.name s.req x.0) up x.1)) sends h

pub accepted_sends_with_next_record : (list : List Entry) (acc : ℕ) (records : List Record) (r : Record) → All (AcceptedSendStandsAt list acc) (accepted_send_of_outcome (acting_name_of_record r) r.outcome)
    → All (AcceptedSendStandsAt list acc) (accepted_sends records) → All (AcceptedSendStandsAt list acc) (accepted_sends (records ++ r ∷ []))
accepted_sends_with_next_record list acc records r new h = subst (All (AcceptedSendStandsAt list acc)) (sym (accepted_push records r))
    (All-append (AcceptedSendStandsAt list acc) (accepted_sends records) (accepted_send_of_outcome (acting_name_of_record r) r.outcome) h new)

-- ---- who was welcomed

-- what a record tells of it, by these letters
abbrev pub welcomes_in_record : List Letter → ℕ → Record → List ℕ
welcomes_in_record letters name r = if (acting_name_of_record r == name) && is_welcome (letter_at letters (packet_heard_by_act r.event.act)) then welcome_number_of_outcome r.outcome else []

pub outcome_welcomes_or_not : (o : Outcome) → (welcome_number_of_outcome o ≡ []) ⊎ (welcome_number_of_outcome o ≢ [])
outcome_welcomes_or_not (said.Welcomed number) = inr (λ e. absurd (cc))
outcome_welcomes_or_not _ = inl refl

none_either : (b : Bool) (l : List ℕ) → l ≡ [] → (if b then l else []) ≡ []
none_either true l h = h
none_either false l h = refl

letter_before : (letters more : List Letter) (number : ℕ) → number ≤ length letters → letter_at (letters ++ more) number ≡ letter_at letters number
letter_before letters more zero low = refl
letter_before letters more (suc k) low = slice_get_of_append_front letters more k (omega arith)

same_welcome : (letters more : List Letter) (name : ℕ) (r : Record) → WelcomeRecordTellsEarlierLetter (length letters) r
    → welcomes_in_record (letters ++ more) name r ≡ welcomes_in_record letters name r
same_welcome letters more name r h = ⊎_elim
    (λ (x : welcome_number_of_outcome r.outcome ≡ []). none_either _ (welcome_number_of_outcome r.outcome) x ∙ sym (none_either _ (welcome_number_of_outcome r.outcome) x))
    (λ (x : welcome_number_of_outcome r.outcome ≢ []). ap (λ l. if (acting_name_of_record r == name) && is_welcome l then welcome_number_of_outcome r.outcome else [])
    (letter_before letters more (packet_heard_by_act r.event.act) (h x)))
    (outcome_welcomes_or_not r.outcome)

same_welcomes : (letters more : List Letter) (name : ℕ) (records : List Record) → All (WelcomeRecordTellsEarlierLetter (length letters)) records
    → flat_map (welcomes_in_record (letters ++ more) name) records ≡ flat_map (welcomes_in_record letters name) records
same_welcomes letters more name [] h = refl
same_welcomes letters more name (r ∷ rs) h =
    let P = WelcomeRecordTellsEarlierLetter (length letters) in
    let a = same_welcome letters more name r (All-head P r rs h) in
    let b = same_welcomes letters more name rs (All-tail P r rs h) in
    λ i. a i ++ b i

pub welcomes_of_pushed_record : (letters more : List Letter) (name : ℕ) (records : List Record) (r : Record) → All (WelcomeRecordTellsEarlierLetter (length letters)) records
    → flat_map (welcomes_in_record (letters ++ more) name) (records ++ r ∷ []) ≡ flat_map (welcomes_in_record letters name) records ++ welcomes_in_record (letters ++ more) name r
welcomes_of_pushed_record letters more name records r h =
    flat_map-append (welcomes_in_record (letters ++ more) name) records (r ∷ [])
    ∙ (λ i. same_welcomes letters more name records h i ++ append-nil (welcomes_in_record (letters ++ more) name r) i)

pub record_without_welcome_welcomes_none : (letters : List Letter) (name : ℕ) (r : Record) → welcome_number_of_outcome r.outcome ≡ [] → welcomes_in_record letters name r ≡ []
record_without_welcome_welcomes_none letters name r none = none_either _ (welcome_number_of_outcome r.outcome) none

pub record_of_other_welcomes_none : (letters : List Letter) (name : ℕ) (r : Record) → acting_name_of_record r ≢ name → welcomes_in_record letters name r ≡ []
record_of_other_welcomes_none letters name r other = let f : (acting_name_of_record r == name) ≡ false =
    split_on_bool (acting_name_of_record r == name) (λ t. absurd (other (grind (arith, nat_tests)))) (λ g. g) in rw f refl

pub record_holds_with_more_letters : (letters more : ℕ) (r : Record) → letters ≤ more → WelcomeRecordTellsEarlierLetter letters r → WelcomeRecordTellsEarlierLetter more r
record_holds_with_more_letters letters more r up h some = let low = h some in omega arith
