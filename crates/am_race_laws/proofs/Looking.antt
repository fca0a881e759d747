-- One look at a node: a turn, an own act or an end, and what the caller's hand is then.
use Rattle.am_race_laws.proofs.Words.{◌≡◌, ℕ, ◌≤◌, List, [], ◌∷◌, length, Bool, true, false, true≢false, Option, None, Result, Ok, Err, IfOk, IfErr, OnOk, sym}
use Rattle.am_race_laws.proofs.Words.{refl, ap, ◌∙◌, subst, append-nil, count_by, TableId, most_events_of_run, Outcome, Letter, Act, By, Call, Turn, Record, RacePlan}
use Rattle.am_race_laws.proofs.Words.{Node, Luck, SharerKey, Caller, WireRefusal, Known, Sees, GoesOn, has_stopped, records_go_on_through_both, records_go_on_to_themselves, CallAnswer, Tag, Looked, Came}
use Rattle.am_race_laws.proofs.Words.{of_call, own_of, is_own, is_turn_part, is_turn, is_due, threadless_plan_of_terms, terms_of, IsHand, what_of, MayAct, Hears, Boxed}
use Rattle.am_race_laws.proofs.Words.{IsShareOf, Acted, IsRefused, refusal_answer, BoxLooks, node_by, turn_event_at, by_of, end_act, end_part, IsCame, luck_behind}
use Rattle.am_race_laws.proofs.Words.{ToldBy, EndTells, Grown, OwnActIsDone, Began, TurnIsMade, EndIsMade, HasSpent, HasEnded, HasLooked, WasRefused, HandIsAtOpenBox}
use Rattle.am_race_laws.proofs.{Growing.no_growth_without_own_record, Growing.records_of_call_grow, Hands.hand_has_its_share, Hands.hand_stays_as_others_add, Hands.hand_stays_after_asking_record, Hands.hand_moves_on_after_turn, Hands.found_turn_may_be_done}
use Rattle.am_race_laws.proofs.{Hands.used_up_call_is_due}
use Rattle.am_group.specs.declared.event.Act.TheVariants as act
use Rattle.am_shared_journal_defs.specs.declared.terms.WireRefusal.TheVariants as refusals
use Rattle.am_race_laws.specs.declared.call.Looked.TheVariants as looked

-- ---- what an act leaves to its caller

acted_grown : (old new : Boxed) (caller : ℕ) (share share' : Known) (a : Act) (by : By) (came : Came) → share.keys ≡ Caller caller ∷ []
    → (did : Acted old new share share' a by came)
    → Grown caller share.seen share'.seen did.item
acted_grown old new caller share share' a by came keys did = record {
  before = did.before;
  goes = subst (λ (ks : List SharerKey). GoesOn ks share.seen did.before) keys did.caller;
  is = ap (λ (k : Known). k.seen) did.share_;
}

goes_since : (caller : ℕ) (x y z : List Record) → GoesOn (Caller caller ∷ []) x y → GoesOn (Caller caller ∷ []) y z → GoesOn (Caller caller ∷ []) x z
goes_since caller x y z p q = records_go_on_through_both (Caller caller ∷ []) (Caller caller ∷ []) x y z (λ key h. h) p q

grown_since : (caller : ℕ) (old middle new : List Record) (item : Record) → GoesOn (Caller caller ∷ []) old middle → Grown caller middle new item
    → Grown caller old new item
grown_since caller old middle new item goes grown = record {
  before = grown.before;
  goes = goes_since caller old middle grown.before goes grown.goes;
  is =
      grown.is;
}

share_goes : (wire : TableId) (plan : RacePlan) (caller : ℕ) (share share' : Known) → IsShareOf wire plan caller share → Sees share share'
    → GoesOn (Caller caller ∷ []) share.seen share'.seen
share_goes wire plan caller share share' its sees = subst (λ (ks : List SharerKey). GoesOn ks share.seen share'.seen) its.keys sees.goes

share_still : (wire : TableId) (plan : RacePlan) (caller : ℕ) (share share' : Known) → IsShareOf wire plan caller share → Sees share share'
    → IsShareOf wire plan caller share'
share_still wire plan caller share share' its sees = record { own = sees.wire ∙ its.own; terms = sees.terms ∙ its.terms; keys = sees.keys ∙ its.keys }

refused_for : (seen : List Record) (name : ℕ) (refusal : WireRefusal) → (refusal ≡ refusals.Spent → length seen ≡ most_events_of_run)
    → IsRefused seen name (refusal_answer refusal)
refused_for seen name refusals.NoMemory full = tt
refused_for seen name refusals.Spent full = full refl

pub refused_box_gives_refusal : (name : ℕ) (seen shown : List Record) (refusal : WireRefusal) (its : CallAnswer) → shown ≡ seen
    → (refusal ≡ refusals.Spent → length seen ≡ most_events_of_run) → its ≡ refusal_answer refusal
    → IsRefused shown name its
refused_box_gives_refusal name seen shown refusal its same full is =
    subst (λ (a : CallAnswer). IsRefused shown name a) (sym is) (refused_for shown name refusal (λ e. ap length same ∙ full e))

pub caller_records_go_on_unchanged : (caller : ℕ) (seen : List Record) → GoesOn (Caller caller ∷ []) seen seen
caller_records_go_on_unchanged caller seen = records_go_on_to_themselves (Caller caller ∷ []) seen

-- ---- turns

-- a turn of a call, which its box found, may be done
pub box_turn_may_be_done : (plan : RacePlan) (old new : Boxed) (a : Act) (by : By) (heard heard' : Option Letter) → BoxLooks old new → heard' ≡ heard
    → has_stopped new.seen new.name ≡ false
    → is_turn (threadless_plan_of_terms (terms_of plan)) new.seen (turn_event_at old.name a) by ≡ true → ((number : ℕ) → a ≡ act.Hear number → Hears new.seen new.name number heard)
    → MayAct new.seen new.name a heard'
box_turn_may_be_done plan old new a by heard heard' looks same runs turn hears =
    subst (MayAct new.seen new.name a) (sym same)
    (found_turn_may_be_done (threadless_plan_of_terms (terms_of plan)) new.seen new.name a by heard runs
    (subst (λ (n : ℕ). is_turn (threadless_plan_of_terms (terms_of plan)) new.seen (turn_event_at n a) by ≡ true) (sym looks.name) turn) hears)

module _ (wire : TableId) (plan : RacePlan) (tag : Tag) (old middle new : Boxed) (share between share' : Known) (luck luck' : Luck) (a : Act) (lost : ℕ)
    (by : By)
    (hand : IsHand wire plan tag.caller share luck) (looks : BoxLooks old middle) (sees : Sees share between) (its : IsShareOf wire plan by.caller share')
    (is : by ≡ by_of tag (Turn lost)) where
  caller_is : by.caller ≡ tag.caller
  caller_is = ap (λ (b : By). b.caller) is

  its_share : IsShareOf wire plan tag.caller share'
  its_share = subst (λ (n : ℕ). IsShareOf wire plan n share') caller_is its

  since : GoesOn (Caller tag.caller ∷ []) share.seen between.seen
  since = share_goes wire plan tag.caller share between (hand_has_its_share wire plan tag.caller share luck hand) sees

  keys : between.keys ≡ Caller tag.caller ∷ []
  keys = sees.keys ∙ hand.keys

  grown : (came : Came) (did : Acted middle new between share' a by came) → Grown tag.caller share.seen share'.seen did.item
  grown came did = grown_since tag.caller share.seen between.seen share'.seen did.item since
      (acted_grown middle new tag.caller between share' a by came keys did)

  pub hand_after_acted_turn : (came : Came) → Acted middle new between share' a by came → luck' ≡ luck_behind luck a lost → IsHand wire plan tag.caller share' luck'
  hand_after_acted_turn came did drew =
      hand_moves_on_after_turn wire plan (by_of tag (Turn lost)) share share' luck luck' a lost did.item hand its_share (grown came did) (did.is.by_
      ∙ is) refl did.is.act_ drew

  pub caller_records_grow_by_turn : (came : Came) → Acted middle new between share' a by came → TurnIsMade old.name tag came.outcome share.seen share'.seen
  caller_records_grow_by_turn came did = record {
    item = did.item;
    grown = grown came did;
    is = record {
      node = did.is.node ∙ looks.name;
      caller = ap (λ (b : By). b.caller) (did.is.by_ ∙ is);
      call = ap (λ (b : By). b.call) (did.is.by_ ∙ is);
      part = ap (λ (b : By). is_turn_part b.part) (did.is.by_ ∙ is);
      came = did.is.outcome;
    };
  }

  pub refused_turn_adds_no_record : GoesOn between.keys between.seen share'.seen → GoesOn (Caller tag.caller ∷ []) share.seen share'.seen
  refused_turn_adds_no_record goes = goes_since tag.caller share.seen between.seen share'.seen since (subst (λ (ks : List SharerKey). GoesOn ks between.seen share'.seen) keys goes)

  pub hand_after_refused_turn : GoesOn between.keys between.seen share'.seen → IsHand wire plan tag.caller share' luck
  hand_after_refused_turn goes = hand_stays_as_others_add wire plan tag.caller share share' luck hand its_share (refused_turn_adds_no_record goes)

-- ---- own acts and ends

module _ (wire : TableId) (plan : RacePlan) (old new : Boxed) (share share' : Known) (luck : Luck) (a : Act) (by : By)
    (hand : IsHand wire plan by.caller share luck) (its : IsShareOf wire plan by.caller share') where
  pub hand_after_asked_act : (came : Came) → is_turn_part by.part ≡ false → Acted old new share share' a by came → IsHand wire plan by.caller share' luck
  hand_after_asked_act came no_turn did =
      hand_stays_after_asking_record wire plan by share share' luck did.item hand its (acted_grown old new by.caller share share' a by came hand.keys did) did.is.by_ no_turn

  pub asked_act_is_done : (came : Came) → share.seen ≡ old.seen → Acted old new share share' a by came
      → ToldBy (what_of a None) (node_by plan old.seen old.name) came.outcome
      → OwnActIsDone plan old.name a by came share.seen share'.seen
  asked_act_is_done came met did told_ = record {
    item = did.item;
    grown = acted_grown old new by.caller share share' a by came hand.keys did;
    is = did.is;
    told = subst (λ (rs : List Record). ToldBy (what_of a None) (node_by plan rs old.name) came.outcome) (sym met) told_;
  }

  pub unasked_act_adds_no_record : GoesOn share.keys share.seen share'.seen → GoesOn (Caller by.caller ∷ []) share.seen share'.seen
  unasked_act_adds_no_record goes = subst (λ (ks : List SharerKey). GoesOn ks share.seen share'.seen) hand.keys goes

  pub hand_after_refused_act : GoesOn share.keys share.seen share'.seen → IsHand wire plan by.caller share' luck
  hand_after_refused_act goes = hand_stays_as_others_add wire plan by.caller share share' luck hand its (unasked_act_adds_no_record goes)

-- ---- one look as a whole

pub hand_stays_at_meeting : (wire : TableId) (plan : RacePlan) (caller : ℕ) (share share' : Known) (luck : Luck) → IsHand wire plan caller share luck → Sees share share'
    → IsHand wire plan caller share' luck
hand_stays_at_meeting wire plan caller share share' luck hand sees =
    let its = hand_has_its_share wire plan caller share luck hand in
    hand_stays_as_others_add wire plan caller share share' luck hand (share_still wire plan caller share share' its sees) (share_goes wire plan caller share share' its sees)

-- where its box does more, the hand meets it
pub box_meets_the_hand : (wire : TableId) (plan : RacePlan) (caller : ℕ) (box : Boxed) (share : Known) (luck : Luck) (r : Result (Unit {0}) CallAnswer)
    → IsHand wire plan caller share luck → length box.seen ≤ most_events_of_run → share.seen ≡ box.seen → OnOk r (box.closed ≡ None)
    → OnOk r (has_stopped box.seen box.name ≡ false) → OnOk r (HandIsAtOpenBox wire plan caller box share luck)
box_meets_the_hand wire plan caller box share luck (Err its) hand few same open_ runs = tt
box_meets_the_hand wire plan caller box share luck (Ok x) hand few same open_ runs = record { hand = hand; open_ = open_; runs = runs; few = few; same = same }

pub meeting_adds_no_record : (wire : TableId) (plan : RacePlan) (caller : ℕ) (share share' : Known) (luck : Luck) → IsHand wire plan caller share luck → Sees share share'
    → GoesOn (Caller caller ∷ []) share.seen share'.seen
meeting_adds_no_record wire plan caller share share' luck hand sees = share_goes wire plan caller share share' (hand_has_its_share wire plan caller share luck hand) sees

pub refused_meeting_was_refused : (name caller : ℕ) (old new seen : List Record) (new_name : ℕ) (r : Result (Unit {0}) CallAnswer) → GoesOn (Caller caller ∷ []) old new
    → new ≡ seen → new_name ≡ name
    → IfErr r (IsRefused seen new_name) → IfErr r (WasRefused name caller old new)
refused_meeting_was_refused name caller old new seen new_name (Ok x) goes both named err = tt
refused_meeting_was_refused name caller old new seen new_name (Err its) goes both named err =
    (goes, subst (λ (n : ℕ). IsRefused new n its) named (subst (λ (rs : List Record). IsRefused rs new_name its) (sym both) err))

refused_since : (name caller : ℕ) (old middle new : List Record) (its : CallAnswer) → GoesOn (Caller caller ∷ []) old middle → WasRefused name caller middle new its
    → WasRefused name caller old new its
refused_since name caller old middle new its goes was = (goes_since caller old middle new goes was.0, was.1)

pub refusal_since_earlier_records : {A : Type 0} (name caller : ℕ) (old middle new : List Record) (r : Result A CallAnswer) → GoesOn (Caller caller ∷ []) old middle
    → IfErr r (WasRefused name caller middle new)
    → IfErr r (WasRefused name caller old new)
refusal_since_earlier_records name caller old middle new (Ok x) goes err = tt
refusal_since_earlier_records name caller old middle new (Err its) goes err = refused_since name caller old middle new its goes err

pub call_began_since_earlier_records : (plan : RacePlan) (name : ℕ) (tag : Tag) (a : Act) (old middle new : List Record) (r : Result Came CallAnswer)
    → GoesOn (Caller tag.caller ∷ []) old middle
    → IfOk r (λ came. OwnActIsDone plan name a (by_of tag Call) came middle new) → IfOk r (λ came. Began name tag a came old new)
call_began_since_earlier_records plan name tag a old middle new (Err its) goes ok = tt
call_began_since_earlier_records plan name tag a old middle new (Ok came) goes asked = record {
  item = asked.item;
  grown = grown_since tag.caller old middle new asked.item goes asked.grown;
  node = asked.is.node;
  by_ = asked.is.by_;
  own = record {
    part = ap (λ (b : By). is_own b.part) asked.is.by_;
    act_ = asked.is.act_;
    outcome = asked.is.outcome;
    round = asked.is.round;
  };
  stops = λ e. subst (λ (x : Act). ToldBy (what_of x None) (node_by plan middle name) came.outcome) e asked.told;
}

pub asked_end_has_ended_call : (plan : RacePlan) (name : ℕ) (tag : Tag) (a : Act) (came : Option Came) (did : Came) (old new : List Record)
    → OwnActIsDone plan name (end_act a came) (by_of tag (end_part a)) did old new
    → HasEnded plan name tag a came old new (looked.End did.outcome)
asked_end_has_ended_call plan name tag a came did old new asked = (
  λ tells. tells did.outcome asked.told,
  record {
    item = asked.item;
    grown = asked.grown;
    is = record { node = asked.is.node; act_ = asked.is.act_; by_ = asked.is.by_; told = asked.is.outcome };
  },
)

ended_since : (name : ℕ) (tag : Tag) (a : Act) (came : Option Came) (outcome : Outcome) (old middle new : List Record)
    → GoesOn (Caller tag.caller ∷ []) old middle
    → EndIsMade name tag a came outcome middle new → EndIsMade name tag a came outcome old new
ended_since name tag a came outcome old middle new goes e = record {
  item = e.item;
  grown = grown_since tag.caller old middle new e.item goes e.grown;
  is = e.is;
}

-- without a turn left
pub look_without_turn_ends_call : (plan : RacePlan) (name : ℕ) (tag : Tag) (a : Act) (came : Option Came) (has_turn : Bool) (old middle new : List Record)
    (r : Result Looked CallAnswer) → has_turn ≡ false
    → GoesOn (Caller tag.caller ∷ []) old middle → IfOk r (HasEnded plan name tag a came middle new) → IfOk r (HasLooked name tag a came has_turn old new)
look_without_turn_ends_call plan name tag a came has_turn old middle new (Err its) last goes ok = tt
look_without_turn_ends_call plan name tag a came has_turn old middle new (Ok (looked.Turn outcome)) last goes ok = absurd ok
look_without_turn_ends_call plan name tag a came has_turn old middle new (Ok (looked.End outcome)) last goes ok =
    ((λ has. absurd (true≢false (sym has ∙ last))), ended_since name tag a came outcome old middle new goes ok.1)

-- where it was ready
pub look_ends_ready_call : (plan : RacePlan) (name : ℕ) (tag : Tag) (a : Act) (came : Option Came) (has_turn : Bool) (old middle new : List Record)
    (r : Result Looked CallAnswer)
    → EndTells (node_by plan middle name) a came → GoesOn (Caller tag.caller ∷ []) old middle → IfOk r (HasEnded plan name tag a came middle new)
    → IfOk r (HasLooked name tag a came has_turn old new)
look_ends_ready_call plan name tag a came has_turn old middle new (Err its) tells goes ok = tt
look_ends_ready_call plan name tag a came has_turn old middle new (Ok (looked.Turn outcome)) tells goes ok = absurd ok
look_ends_ready_call plan name tag a came has_turn old middle new (Ok (looked.End outcome)) tells goes ok =
    ((λ has. ok.0 tells), ended_since name tag a came outcome old middle new goes ok.1)

-- where it made a turn
pub look_with_turn_spends_it : (name : ℕ) (tag : Tag) (a : Act) (came : Option Came) (has_turn : Bool) (old middle new : List Record) (r : Result Looked CallAnswer)
    → has_turn ≡ true
    → GoesOn (Caller tag.caller ∷ []) old middle → IfOk r (HasSpent name tag middle new) → IfOk r (HasLooked name tag a came has_turn old new)
look_with_turn_spends_it name tag a came has_turn old middle new (Err its) has goes ok = tt
look_with_turn_spends_it name tag a came has_turn old middle new (Ok (looked.End outcome)) has goes ok = absurd ok
look_with_turn_spends_it name tag a came has_turn old middle new (Ok (looked.Turn outcome)) has goes t = (
  has,
  record { item = t.item; grown = grown_since tag.caller old middle new t.item goes t.grown; is = t.is },
)

-- a call's records stay, whatever others added
call_still : (tag : Tag) (old new : List Record) → GoesOn (Caller tag.caller ∷ []) old new
    → of_call tag.caller tag.call new ≡ of_call tag.caller tag.call old
call_still tag old new goes = records_of_call_grow 0 tag old new [] (no_growth_without_own_record 0 tag old new goes) ∙ append-nil (of_call tag.caller tag.call old)

-- where its turns are used, it is due at its box
pub box_call_due_if_used : (plan : RacePlan) (tag : Tag) (m : Node) (old shown seen : List Record) → GoesOn (Caller tag.caller ∷ []) old shown → shown ≡ seen
    → plan.turns ≤ count_by (λ r. is_turn_part r.by.part) (of_call tag.caller tag.call old) → is_due plan m (of_call tag.caller tag.call seen) ≡ true
box_call_due_if_used plan tag m old shown seen goes same used =
    used_up_call_is_due plan m (of_call tag.caller tag.call seen)
    (subst (λ (rs : List Record). plan.turns ≤ count_by (λ r. is_turn_part r.by.part) rs)
    (sym (call_still tag old shown goes) ∙ ap (of_call tag.caller tag.call) same) used)

-- what came of the own act is so, whatever others added
came_since : (tag : Tag) (a : Act) (came : Option Came) (old new : List Record) → GoesOn (Caller tag.caller ∷ []) old new
    → IsCame a came (own_of (of_call tag.caller tag.call old))
    → IsCame a came (own_of (of_call tag.caller tag.call new))
came_since tag a came old new goes is =
    subst (λ (l : List Record). IsCame a came (own_of l)) (sym (call_still tag old new goes)) is

pub own_outcome_stays_seen : (tag : Tag) (a : Act) (came : Option Came) (old shown seen : List Record) → GoesOn (Caller tag.caller ∷ []) old shown → shown ≡ seen
    → IsCame a came (own_of (of_call tag.caller tag.call old)) → IsCame a came (own_of (of_call tag.caller tag.call seen))
own_outcome_stays_seen tag a came old shown seen goes same is =
    subst (λ (rs : List Record). IsCame a came (own_of (of_call tag.caller tag.call rs))) same (came_since tag a came old shown goes is)
