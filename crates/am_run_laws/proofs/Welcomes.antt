-- Who was welcomed, after a step.
use Rattle.am_run_laws.proofs.UnballotedWords.{◌≡◌, ◌≢◌, ⊎_elim, ℕ, ◌≤◌, ◌==◌, true, false, if◌then◌else◌, List, [], ◌∷◌, ◌++◌, length, refl, sym, ap}
use Rattle.am_run_laws.proofs.UnballotedWords.{◌∙◌, subst, append-nil, arith, nat_tests, Outcome, NodeEvent, Packet, Letter, kind_of, Act, Record, letter_at, acting_name_of_record}
use Rattle.am_run_laws.proofs.UnballotedWords.{Node, has_log_by_status, World, packet_heard_by_act, is_welcome, welcome_number_of_outcome, split_on_bool, Cause, calls, hears, refuses, OutcomeTells, ListHasBegun}
use Rattle.am_run_laws.proofs.UnballotedWords.{IsCall, IsCause, WasSentTo, asking_status_has_no_log}
use Rattle.am_base.specs.declared.outcome.Outcome.TheVariants as said
use Rattle.am_step_laws.specs.Events as event
use Rattle.am_run_laws.proofs.{Lists.item_at_of_appended, Lists.item_at_number_is_within, Worlds.start_of_joined_list, Worlds.WelcomeRecordTellsEarlierLetter, Records.welcomes_in_record, Records.outcome_welcomes_or_not, Records.record_without_welcome_welcomes_none, Chains.GaveByAnswer}
use Rattle.am_run_laws.proofs.{Chains.nothing, Chains.took, Chains.began}

-- a call hears nothing
call_unheard : (w : World) (a : Act) (ev : NodeEvent) → IsCall w a ev → packet_heard_by_act a ≡ 0
call_unheard w a ev (event.send body) = refl
call_unheard w a ev _ = refl

-- ---- the record of a step

record_answer : (m : Node) (n : Node) (o : Outcome) → welcome_number_of_outcome o ≢ [] → OutcomeTells m refuses n o → ⊥
record_answer m n (said.Welcomed join) some h = h
record_answer m n _ some h = absurd (some refl)

pub step_record_tells_earlier_letter : (w : World) (i : ℕ) (m n : Node) (c : Cause) (r : Record) (many : ℕ) → IsCause w i r.event.act c → length w.letters ≤ many
    → OutcomeTells m c n r.outcome → WelcomeRecordTellsEarlierLetter many r
step_record_tells_earlier_letter w i m n (calls ev) r many cause up answer some = let z = call_unheard w r.event.act ev cause in omega arith
step_record_tells_earlier_letter w i m n (hears p) r many cause up answer some = let z = (item_at_number_is_within w.letters (packet_heard_by_act r.event.act) cause.letter cause.there).1 in omega arith
step_record_tells_earlier_letter w i m n refuses r many cause up answer some = absurd (record_answer m n r.outcome some answer)

-- ---- what it tells

silent : (letters : List Letter) (i : ℕ) (r : Record) → is_welcome (letter_at letters (packet_heard_by_act r.event.act)) ≡ false → welcomes_in_record letters i r ≡ []
silent letters i r f = split_on_bool (acting_name_of_record r == i) (λ t. rw (t, f) refl) (λ g. rw g refl)

letter_now : (w : World) (i : ℕ) (a : Act) (p : Packet) (more : List Letter) → WasSentTo w i a p
    → is_welcome (letter_at (w.letters ++ more) (packet_heard_by_act a)) ≡ (kind_of p == 10)
letter_now w i a p more h =
    let there = item_at_of_appended w.letters more (packet_heard_by_act a) h.letter h.there in
    ap is_welcome there ∙ ap (λ x. kind_of x == 10) h.is

-- a Welcome that is answered so begins a list
begun_log : (m n : Node) (p : Packet) (o : Outcome) → has_log_by_status n.status ≡ has_log_by_status m.status → (kind_of p == 10) ≡ true → OutcomeTells m (hears p) n o
    → welcome_number_of_outcome o ≡ []
begun_log m n p o log kind answer = by_packet p o kind answer
  where
    begins : (join : ℕ) → ListHasBegun m n join → welcome_number_of_outcome (said.Welcomed join) ≡ []
    begins join h = let a = asking_status_has_no_log m.status h.asked in let b = ap has_log_by_status h.member in absurd (cc)

    by_packet : (p : Packet) (o : Outcome) → (kind_of p == 10) ≡ true → OutcomeTells m (hears p) n o → welcome_number_of_outcome o ≡ []
    by_packet (Packet.Welcome s v base join image) (said.Welcomed number) k h = begins number h
    by_packet (Packet.JoinAsk s v) (said.Welcomed number) k h = absurd (cc)
    by_packet _ (said.Welcomed number) k h = absurd h
    by_packet p _ k h = refl

-- where nothing begins, nothing is told
none_told : (w : World) (i : ℕ) (m n : Node) (c : Cause) (r : Record) (more : List Letter) → IsCause w i r.event.act c → OutcomeTells m c n r.outcome
    → has_log_by_status n.status ≡ has_log_by_status m.status → welcomes_in_record (w.letters ++ more) i r ≡ []
none_told w i m n (calls ev) r more cause answer log =
    let z = call_unheard w r.event.act ev cause in
    silent (w.letters ++ more) i r (ap (λ k. is_welcome (letter_at (w.letters ++ more) k)) z)
none_told w i m n (hears p) r more cause answer log = split_on_bool (kind_of p == 10)
    (λ t. record_without_welcome_welcomes_none (w.letters ++ more) i r (begun_log m n p r.outcome log t answer))
    (λ f. silent (w.letters ++ more) i r (letter_now w i r.event.act p more cause ∙ f))
none_told w i m n refuses r more cause answer log = ⊎_elim
    (λ (x : welcome_number_of_outcome r.outcome ≡ []). record_without_welcome_welcomes_none (w.letters ++ more) i r x)
    (λ (x : welcome_number_of_outcome r.outcome ≢ []). absurd (record_answer m n r.outcome x answer))
    (outcome_welcomes_or_not r.outcome)

pub welcomes_after_step : (w : World) (i : ℕ) (m n : Node) (c : Cause) (r : Record) (more : List Letter) → acting_name_of_record r ≡ i → IsCause w i r.event.act c
    → OutcomeTells m c n r.outcome → GaveByAnswer c r.outcome m n → start_of_joined_list m ++ welcomes_in_record (w.letters ++ more) i r ≡ start_of_joined_list n
welcomes_after_step w i m n c r more by cause answer (nothing f start log) =
    ap (λ l. start_of_joined_list m ++ l) (none_told w i m n c r more cause answer log) ∙ append-nil (start_of_joined_list m) ∙ sym (λ j. if log j then start j ∷ [] else [])
welcomes_after_step w i m n c r more by cause answer (took k e is a b start low ln lm) =
    ap (λ l. start_of_joined_list m ++ l) (record_without_welcome_welcomes_none (w.letters ++ more) i r (ap welcome_number_of_outcome is)) ∙ append-nil (start_of_joined_list m)
    ∙ sym (λ j. if (ln ∙ sym lm) j then start j ∷ [] else [])
welcomes_after_step w i m n c r more by cause answer (began s v base join image heard is lm ln start f up) =
    let sent : WasSentTo w i r.event.act (Packet.Welcome s v base join image) = subst (IsCause w i r.event.act) heard cause in
    let there : is_welcome (letter_at (w.letters ++ more) (packet_heard_by_act r.event.act)) ≡ true =
    letter_now w i r.event.act (Packet.Welcome s v base join image) more sent in
    let own : (acting_name_of_record r == i) ≡ true = grind (arith, nat_tests) in
    let told : welcomes_in_record (w.letters ++ more) i r ≡ join ∷ [] = rw (own, there) (ap welcome_number_of_outcome is) in
    let before : start_of_joined_list m ≡ [] = rw lm refl in
    let now : start_of_joined_list n ≡ n.core.start ∷ [] = rw ln refl in
    (λ j. before j ++ told j) ∙ ap (λ x. x ∷ []) (sym start) ∙ sym now
