-- What a race leaves at its end.
use Rattle.am_race_laws.proofs.Words.{◌≡◌, ℕ, zero, suc, ◌+◌, ◌<◌, ◌≤◌, List, [], ◌∷◌, length, Bool, true, false, cond, sym, refl, ap, ◌∙◌, subst}
use Rattle.am_race_laws.proofs.Words.{arith, inl, inr, ⊎_elim, ne_eqb, All, if◌then◌else◌, ◌==◌, ◌⊎◌, TableId, Act, Record, RacePlan, Luck, words_by_seed}
use Rattle.am_race_laws.proofs.Words.{Caller, Known, fresh, EachComesNext, of_caller, is_turn, may_end, later, is_take, is_callers, are_calls, is_receive, IsHand}
use Rattle.am_race_laws.proofs.Words.{HasMade, caller_luck_after, IsLawfulRecord, terms_of, IsLegalWithTags}
use Rattle.am_race_laws.proofs.Legality.{legal_records_come_next}
use Rattle.std.proofs.lemmas.Bool.{and_from}

-- ---- callers that have made no call

either_way : (b : Bool) → (if b then true else true) ≡ true
either_way true = refl
either_way false = refl

pub no_calls_leave_no_records : (turns number : ℕ) (calls : List Act) → are_calls turns number calls [] ≡ true
unfolding are_calls is_receive
no_calls_leave_no_records turns number [] = refl
no_calls_leave_no_records turns number (planned ∷ calls) = and_from (if is_take planned then true else true) (are_calls turns (number + 1) calls [])
    (either_way (is_take planned)) (no_calls_leave_no_records turns (number + 1) calls)

pub luck_after_no_records : (plan : RacePlan) (number stream : ℕ) (luck : Luck) → stream ≡ number
    → luck ≡ record { words = words_by_seed plan.seed_number stream; loss = plan.loss; repeat = plan.repeat }
    → luck ≡ caller_luck_after plan number 0
unfolding later
luck_after_no_records plan number stream luck same is = is ∙ ap (λ (n : ℕ). caller_luck_after plan n 0) same

pub fresh_share_gives_hand : (wire : TableId) (plan plan' : RacePlan) (number : ℕ) (share its : Known) (luck : Luck) → plan' ≡ plan → its ≡ share
    → share ≡ fresh wire (terms_of plan) (Caller number)
    → luck ≡ caller_luck_after plan' number 0 → IsHand wire plan number its luck × HasMade plan number [] its.seen
fresh_share_gives_hand wire plan plan' number share its luck same is new its_luck =
    let all : its ≡ fresh wire (terms_of plan) (Caller number) = is ∙ new in
    subst (λ (k : Known). IsHand wire plan number k luck × HasMade plan number [] k.seen) (sym all) (
      record {
        own = refl;
        terms = refl;
        keys = refl;
        luck_ = its_luck ∙ ap (λ (p : RacePlan). caller_luck_after p number 0) same;
      },
      record { made = no_calls_leave_no_records plan.turns 0 []; earlier = λ k d h. absurd (omega arith) },
    )

-- ---- the journal is legal with its tags

of_none : (caller many : ℕ) (journal : List Record) → many ≤ caller → All (λ r. r.by.caller < many) journal → of_caller caller journal ≡ []
of_none caller many [] le all = refl
of_none caller many (r ∷ rest) le all =
    let below : r.by.caller < many = all 0 r (omega arith) in
    let other : (r.by.caller == caller) ≡ false = ne_eqb r.by.caller caller (λ e. omega arith) in
    ap (λ (b : Bool). cond b (r ∷ of_caller caller rest) (of_caller caller rest)) other ∙ of_none caller many rest le (λ k d h. all (suc k) d (omega arith))

below_or : (a n : ℕ) → (a < n) ⊎ (n ≤ a)
below_or a zero = inr (omega arith)
below_or zero (suc n) = inl (omega arith)
below_or (suc a) (suc n) = ⊎_elim (λ (h : a < n). inl (omega arith)) (λ (h : n ≤ a). inr (omega arith)) (below_or a n)

pub planned_calls_make_legal_journal : (plan : RacePlan) (calls : ℕ → List Act) (journal : List Record) → EachComesNext (IsLawfulRecord (terms_of plan)) journal
    → All (λ r. r.by.caller < length plan.threads) journal
    → ((caller : ℕ) → caller < length plan.threads → is_callers plan.turns (calls caller) (of_caller caller journal) ≡ true)
    → IsLegalWithTags plan calls journal
unfolding is_turn may_end
planned_calls_make_legal_journal plan calls journal follows all each = record {
  legal = (legal_records_come_next plan.founding journal).1 (λ before rest r e. (follows before rest r e).next);
  callers = λ caller. ⊎_elim (each caller) (beyond caller) (below_or caller (length plan.threads));
  turns = λ before rest r e is. (follows before rest r e).turn is;
  ends = λ before rest r e is. (follows before rest r e).end_ is;
  stops = λ before rest r e. (follows before rest r e).stop;
  each = λ before rest r e. let l = follows before rest r e in record { node = l.node; life = l.life; act_ = l.act_; hears = l.hears };
}
  where
    beyond : (caller : ℕ) → length plan.threads ≤ caller → is_callers plan.turns (calls caller) (of_caller caller journal) ≡ true
    beyond caller le =
        ap (is_callers plan.turns (calls caller)) (of_none caller (length plan.threads) journal le all) ∙ no_calls_leave_no_records plan.turns 0 (calls caller)
