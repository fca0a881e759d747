-- What a world keeps in a run without a ballot.
use Rattle.am_run_laws.proofs.UnballotedWords.{◌≡◌, ◌≢◌, ⊎_elim, ℕ, ◌+◌, ◌-◌, ◌≤◌, ◌==◌, true, false, if◌then◌else◌, List, [], ◌∷◌, ◌++◌, length, take, Some}
use Rattle.am_run_laws.proofs.UnballotedWords.{slice_get, refl, sym, ap, ◌∙◌, subst, arith, All, nat_tests, Entry, Data, Rules, has, Act, Record, acting_name_of_record, deliveries}
use Rattle.am_run_laws.proofs.UnballotedWords.{Node, map_with_value, has_log_by_status, World, AcceptedSend, accepted_sends, IsSend, packet_heard_by_act, welcome_number_of_outcome, welcome_numbers_of, split_on_bool, slice_get_after_push}
use Rattle.am_run_laws.proofs.{UnballotedKept.first_founder_of, UnballotedKept.AcceptedStandsAt, UnballotedKept.UnballotedNodeKeeps, UnballotedKept.UnballotedLetterSays, Others.SendsHaveOneBody, First.FirstFounderStaysMember, Chains.front_of_given}

-- ---- what was given, and who was welcomed

-- what was given out are the list's entries from the start on, up to the front
pub record GivenAreListEntries (list : List Entry) (acc : ℕ) (m : Node) (given : List (ℕ × Entry)) : Type 0 where
  pub count : length given + (m.core.start - 1) ≡ front_of_given m
  pub each : (k number : ℕ) (e : Entry) → slice_get given k ≡ Some (number, e) → (number ≡ m.core.start + k) × AcceptedStandsAt list acc (m.core.start + k) e

-- the numbers with which it was welcomed
abbrev pub start_of_joined_list : Node → List ℕ
start_of_joined_list m = if has_log_by_status m.status then m.core.start ∷ [] else []

-- a record of a Welcome tells a letter that was there
abbrev pub WelcomeRecordTellsEarlierLetter : ℕ → Record → Type 0
WelcomeRecordTellsEarlierLetter letters r = welcome_number_of_outcome r.outcome ≢ [] → packet_heard_by_act r.event.act ≤ letters

-- a send that was answered as sent stands at its number
abbrev pub AcceptedSendStandsAt : List Entry → ℕ → AcceptedSend → Type 0
AcceptedSendStandsAt list acc s = (body : List ℕ) × AcceptedStandsAt list acc s.number (Data s.name s.req body)

-- ---- requests

-- each request number was given out once, and is no greater than the last
pub record RequestsAreAskedOnce (records : List Record) (nodes : ℕ → Node) : Type 0 where
  pub low : (k : ℕ) (r : Record) (name req : ℕ) (body : List ℕ) → slice_get records k ≡ Some r → IsSend r name req body → req ≤ (nodes name).sends.last
  pub once : (k l : ℕ) (r s : Record) (name req : ℕ) (body other : List ℕ) → slice_get records k ≡ Some r → slice_get records l ≡ Some s
      → IsSend r name req body → IsSend s name req other → k ≡ l

body_in : Act → List ℕ
body_in (Act.Send body) = body
body_in _ = []

unfolds : (body : List ℕ) → body_in (Act.Send body) ≡ body
unfolding body_in
unfolds body = refl

pub asked_once_means_one_body : (records : List Record) (nodes : ℕ → Node) → RequestsAreAskedOnce records nodes → SendsHaveOneBody records
asked_once_means_one_body records nodes h = record {
  one = λ name req body other a b.
      let k = h.once a.index b.index a.send b.send name req body other a.there b.there a.is b.is in
      let same : Some a.send ≡ Some b.send = sym a.there ∙ ap (slice_get records) k ∙ b.there in
      let records_ : a.send ≡ b.send = cc in
      let acts = sym a.is.asked ∙ ap (λ (r : Record). r.event.act) records_ ∙ b.is.asked in
      sym (unfolds body) ∙ ap body_in acts ∙ unfolds other;
}

-- a record more that is no Send
pub other_record_keeps_requests_once : (records : List Record) (nodes : ℕ → Node) (new : Record) → ((name req : ℕ) (body : List ℕ) → IsSend new name req body → ⊥)
    → RequestsAreAskedOnce records nodes → RequestsAreAskedOnce (records ++ new ∷ []) nodes
other_record_keeps_requests_once records nodes new isnt h = record {
  low = λ k r name req body there is. ⊎_elim (λ (x : slice_get records k ≡ Some r). h.low k r name req body x is)
      (λ (x : (k ≡ length records) × (new ≡ r)). absurd (isnt name req body (subst (λ y. IsSend y name req body) (sym x.1) is)))
      (slice_get_after_push records new k r there);
  once = λ k l r s name req body other a b is also. ⊎_elim
      (λ (x : slice_get records k ≡ Some r). ⊎_elim (λ (y : slice_get records l ≡ Some s). h.once k l r s name req body other x y is also)
      (λ (y : (l ≡ length records) × (new ≡ s)). absurd (isnt name req other (subst (λ z. IsSend z name req other) (sym y.1) also)))
      (slice_get_after_push records new l s b))
      (λ (x : (k ≡ length records) × (new ≡ r)). absurd (isnt name req body (subst (λ z. IsSend z name req body) (sym x.1) is))) (slice_get_after_push records new k r a);
}

-- a record more of a name whose last request number is greater by it
pub send_record_keeps_requests_once : (records : List Record) (nodes : ℕ → Node) (i : ℕ) (n : Node) (new : Record) → acting_name_of_record new ≡ i → (nodes i).sends.last ≤ n.sends.last
    → ((req : ℕ) (body : List ℕ) → IsSend new i req body → (req ≡ (nodes i).sends.last + 1) × (req ≤ n.sends.last)) → RequestsAreAskedOnce records nodes
    → RequestsAreAskedOnce (records ++ new ∷ []) (map_with_value nodes i n)
send_record_keeps_requests_once records nodes i n new by up may h = record {
  low = λ k r name req body there is. ⊎_elim (λ (x : slice_get records k ≡ Some r). old name req (h.low k r name req body x is))
      (λ (x : (k ≡ length records) × (new ≡ r)). (let mine = subst (λ y. IsSend y name req body) (sym x.1) is in
      let same : name ≡ i = sym mine.by ∙ by in
      let low = (may req body (subst (λ z. IsSend new z req body) same mine)).1 in
      let self : (name == i) ≡ true = grind (arith, nat_tests) in rw self low)) (slice_get_after_push records new k r there);
  once = λ k l r s name req body other a b is also. ⊎_elim
      (λ (x : slice_get records k ≡ Some r). ⊎_elim (λ (y : slice_get records l ≡ Some s). h.once k l r s name req body other x y is also)
      (λ (y : (l ≡ length records) × (new ≡ s)). absurd (twice k r name req body other x is (subst (λ z. IsSend z name req other) (sym y.1) also)))
      (slice_get_after_push records new l s b))
      (λ (x : (k ≡ length records) × (new ≡ r)). ⊎_elim (λ (y : slice_get records l
      ≡ Some s). absurd (twice l s name req other body y also (subst (λ z. IsSend z name req body) (sym x.1) is)))
      (λ (y : (l ≡ length records) × (new ≡ s)). x.0 ∙ sym y.0) (slice_get_after_push records new l s b)) (slice_get_after_push records new k r a);
}
  where
    old : (name req : ℕ) → req ≤ (nodes name).sends.last → req ≤ (map_with_value nodes i n name).sends.last
    old name req low = split_on_bool (name == i)
        (λ t. let e : name ≡ i = grind (arith, nat_tests) in let z = ap (λ x. (nodes x).sends.last) e in rw t (omega arith))
        (λ f. rw f low)

    twice : (k : ℕ) (r : Record) (name req : ℕ) (body other : List ℕ) → slice_get records k ≡ Some r → IsSend r name req body → IsSend new name req other → ⊥
    twice k r name req body other there is mine =
        let same : name ≡ i = sym mine.by ∙ by in
        let next = (may req other (subst (λ z. IsSend new z req other) same mine)).0 in
        let low = h.low k r name req body there is in
        let z = ap (λ x. (nodes x).sends.last) same in
        omega arith

-- ---- a world

pub record WorldKeepsWholeList (rules : Rules) (list : List Entry) (acc : ℕ) (w : World) : Type 0 where
  pub each : (i : ℕ) → UnballotedNodeKeeps rules list acc i (w.nodes i)
  pub group : w.group ≡ take acc list
  pub letters : All (UnballotedLetterSays rules list acc) w.letters
  pub given : (i : ℕ) → GivenAreListEntries list acc (w.nodes i) (deliveries w.records i)
  pub welcomed : (i : ℕ) → has rules.founders i ≡ false → welcome_numbers_of w i ≡ start_of_joined_list (w.nodes i)
  pub heard : All (WelcomeRecordTellsEarlierLetter (length w.letters)) w.records
  pub accepted : All (AcceptedSendStandsAt list acc) (accepted_sends w.records)

-- of the list of the first founder's node
pub record UnballotedWorldHolds (rules : Rules) (w : World) : Type 0 where
  pub first : FirstFounderStaysMember rules (w.nodes (first_founder_of rules))
  pub kept : WorldKeepsWholeList rules (w.nodes (first_founder_of rules)).core.log.entries (w.nodes (first_founder_of rules)).core.acc w
  pub asked : RequestsAreAskedOnce w.records w.nodes
