-- What an act of a box leaves: its record comes next, whatever others added, and the box stands after it.
use Rattle.am_race_laws.proofs.Words.{◌≡◌, ◌≢◌, ℕ, zero, suc, ◌<◌, ◌≤◌, List, [], ◌∷◌, ◌++◌, length, drop, map, get_or, max, Bool, true, false, true≢false}
use Rattle.am_race_laws.proofs.Words.{Option, Some, None, cond, sym, refl, ap, ◌∙◌, subst, arith, append-nil, length-append, eq-eqb, if◌then◌else◌, ◌==◌}
use Rattle.am_race_laws.proofs.Words.{◌||◌, All, drop-append_seam, filter-append, none-some, fold-append, most_events_of_run, TableId, Outcome, NodeEvent, place_of_name}
use Rattle.am_race_laws.proofs.Words.{name_of_place_and_life, CoreFrontsAreInOrder, Letter, Act, By, Event, Record, RacePlan, is_for, acting_name_of_record, letters_of_records, letter_at, flat_map-append}
use Rattle.am_race_laws.proofs.Words.{packet_heard_by_act, Node, HasNumbersLeft, World, is_stopped, world_with_record, world_after_act, happens, current, no_caller, record_of, with_tag}
use Rattle.am_race_laws.proofs.Words.{IsEndOf, SharerKey, Place, Caller, Terms, WireRefusal, is_of, of_key, times, same_key, Known, IsReady, Committed, Sees, EachComesNext}
use Rattle.am_race_laws.proofs.Words.{GoesOn, is_stop, has_stopped, log_is_start_and_rest, times_of_cons, world_after, IsNext, of_place, is_turn, may_end, greatest_number}
use Rattle.am_race_laws.proofs.Words.{passed_number, cursor, last_heard, letter_lost_by_part, unless_nought, or_nought, RecordIsApart, threadless_plan_of_terms, terms_of, IsLawfulRecord, what_of, Steps}
use Rattle.am_race_laws.proofs.Words.{MayAct, Boxed, BoxKeepsNode, IsBox, IsShareOf, IsTimely, Acted, BoxLooks, IsRefused, refusal_answer, Came, round_in}
use Rattle.am_race_laws.proofs.Nexts.{nodes_stay_through_others_records, has_stopped_in_longer_records, others_records_stop_no_name, or_with_second_false, item_at_in_longer_list, later_records_have_first_lives, all_of_cons_records}
use Rattle.am_race_laws.proofs.{Knows.lawful_journal_knows_its_world, Knows.current_name_has_first_life, Knows.world_after_one_more_record, Knows.has_stopped_after_record, Legality.told_record_is_its_event, Stays.turn_stays_through_others, Stays.end_stays_through_others}
use Rattle.am_race_laws.proofs.{Acting.numbers_left_in_journal, Acting.record_comes_of_each_step, Acting.RecordComesOfStep}
use Rattle.am_base.specs.declared.outcome.Outcome.TheVariants as said
use Rattle.am_group.specs.declared.event.Act.TheVariants as act
use Rattle.am_shared_journal_defs.specs.declared.terms.WireRefusal.TheVariants as refusals
use Rattle.std.proofs.lemmas.Bool.{or_left}
use Rattle.am_race_laws.proofs.Words.{map-append, split_on_bool}

-- ---- records of a key

empty_rest : (xs ys : List Record) → xs ++ ys ≡ xs → ys ≡ []
empty_rest xs ys e = sym (drop-append_seam xs ys) ∙ ap (drop (length xs)) (e ∙ sym (append-nil xs)) ∙ drop-append_seam xs []

no_cons : (r : Record) (rs : List Record) → r ∷ rs ≡ [] → ⊥
no_cons r rs e = let n : length (r ∷ rs) ≡ length {A = Record} [] = ap length e in absurd (omega arith)

kept_or_not : (r : Record) (kept : List Record) (b : Bool) → cond b (r ∷ kept) kept ≡ [] → (b ≡ false) × (kept ≡ [])
kept_or_not r kept true e = absurd (no_cons r kept e)
kept_or_not r kept false e = (refl, e)

none_kept : (key : SharerKey) (more : List Record) → of_key key more ≡ [] → All (λ r. is_of key r ≡ false) more
none_kept key [] e = λ k d h. absurd (omega arith)
none_kept key (r ∷ rest) e =
    let b = kept_or_not r (of_key key rest) (is_of key r) e in
    all_of_cons_records (λ (q : Record). is_of key q ≡ false) r rest b.0 (none_kept key rest b.1)

-- what came after what was seen has no record of the key
pub later_records_lack_key : (key : SharerKey) (seen more : List Record) → of_key key (seen ++ more) ≡ of_key key seen → All (λ r. is_of key r ≡ false) more
later_records_lack_key key seen more e = none_kept key more (empty_rest (of_key key seen) (of_key key more) (sym (filter-append (is_of key) seen more) ∙ e))

pub own_key_times_positive : (key : SharerKey) → 0 < times key (key ∷ [])
own_key_times_positive key = let e = times_of_cons key key [] in let s = itself key in let o : ◌≡◌ {A = ℕ} (cond (same_key key key) 1 0) 1 = rw s refl in omega arith
  where
    itself : (k : SharerKey) → same_key k k ≡ true
    itself (Place place) = eq-eqb place place refl
    itself (Caller caller) = eq-eqb caller caller refl

-- ---- what others added

-- a journal that goes on without a record of the place and the caller
pub record GoesBeyondWhatWasSeen (seen before : List Record) (place caller : ℕ) : Type 0 where
  pub more : List Record
  pub is : before ≡ seen ++ more
  pub place_ : All (λ r. place_of_name r.event.node ≢ place) more
  pub apart : All (RecordIsApart place caller) more

pub unequal_test_means_different : (a b : ℕ) → (a == b) ≡ false → a ≢ b
unequal_test_means_different a b unlike same = true≢false (sym (eq-eqb a b same) ∙ unlike)

pub journal_goes_beyond_seen : (seen known before : List Record) (place caller : ℕ) → known ≡ seen → GoesOn (Place place ∷ []) seen before
    → GoesOn (Caller caller ∷ []) known before
    → GoesBeyondWhatWasSeen seen before place caller
journal_goes_beyond_seen seen known before place caller same goes its =
    let more : List Record = drop (length seen) before in
    let is : before ≡ seen ++ more = log_is_start_and_rest before seen goes.begins in
    let far = later_records_lack_key (Place place) seen more (ap (of_key (Place place)) (sym is) ∙ goes.own (Place place) (own_key_times_positive (Place place))) in
    let other = later_records_lack_key (Caller caller) seen more (ap (of_key (Caller caller)) (sym is) ∙ its.own (Caller caller) (own_key_times_positive (Caller caller))
    ∙ ap (of_key (Caller caller)) same) in record {
      more = more;
      is = is;
      place_ = λ k d h. unequal_test_means_different (place_of_name (get_or more k d).event.node) place (far k d h);
      apart = λ k d h. record {
        place = unequal_test_means_different (place_of_name (get_or more k d).event.node) place (far k d h);
        caller = unequal_test_means_different (get_or more k d).by.caller caller (other k d h);
      };
    }

-- ---- an act stays one that may be done

low_place : (name : ℕ) → name < 16 → place_of_name name ≡ name
low_place name h = omega arith

first_name : (name : ℕ) → name < 16 → name_of_place_and_life (place_of_name name) 1 ≡ name
first_name name h = omega arith

may_still : (terms : Terms) (seen more : List Record) (name : ℕ) (a : Act) (l : Option Letter) → name < 16 → EachComesNext (IsLawfulRecord terms) (seen ++ more)
    → All (λ r. place_of_name r.event.node ≢ name) more → MayAct seen name a l → MayAct (seen ++ more) name a l
may_still terms seen more name a l low follows far may = record {
  race = may.race;
  runs = has_stopped_in_longer_records seen more name
      ∙ or_with_second_false (has_stopped seen name) (has_stopped more name)
      (others_records_stop_no_name more name (subst (λ (p : ℕ). All (λ (r : Record). place_of_name r.event.node ≢ p) more) (sym (low_place name low)) far)
      (later_records_have_first_lives terms seen more follows) low)
      ∙ may.runs;
  hears = λ number e. let h = may.hears number e in record {
    letter = h.letter;
    is = h.is;
    sent = ap (λ (ls : List Letter). letter_at ls number) (flat_map-append (λ (r : Record). r.packets) seen more)
        ∙ item_at_in_longer_list (letters_of_records seen) (letters_of_records more) number h.letter h.sent;
    its = h.its;
    packet = h.packet;
  };
  given = λ other e. has_stopped_in_longer_records seen more other ∙ or_left (has_stopped seen other) (has_stopped more other) (may.given other e);
}

-- ---- a stop

-- where nothing is asked of the node, the act is its stop
stops_then : (before : List Record) (name : ℕ) (a : Act) (l : Option Letter) → MayAct before name a l → what_of a l ≡ None → a ≡ act.Stop
stops_then before name act.Stop l may e = refl
stops_then before name (act.Hear number) l may e = let h = may.hears number refl in absurd (none-some _ (sym e ∙ ap (what_of (act.Hear number)) h.is))
stops_then before name (act.Cut number keep) l may e = absurd (true≢false (sym may.race))
stops_then before name act.Return l may e = absurd (true≢false (sym may.race))
stops_then before name _ l may e = absurd (none-some _ (sym e))

stop_now : (w : World) (e : Event) (name : ℕ) (b : Bool) → b ≡ false
    → (if b then world_with_record w e said.IsStopped else world_with_record (record w { stopped = w.stopped ++ name ∷ [] }) e said.Stopped)
    ≡ world_with_record (record w { stopped = w.stopped ++ name ∷ [] }) e said.Stopped
stop_now w e name b runs = rw runs refl

left_alone : (w : World) (e : Event) (name k : ℕ) (outcome : Outcome)
    → (world_with_record (record w { stopped = w.stopped ++ k ∷ [] }) e outcome).nodes name ≡ w.nodes name
unfolding world_with_record
left_alone w e name k outcome = refl

one_more : (w : World) (e : Event) (k : ℕ) (outcome : Outcome)
    → (world_with_record (record w { stopped = w.stopped ++ k ∷ [] }) e outcome).records ≡ w.records ++ record_of w e outcome [] ∷ []
unfolding world_with_record
one_more w e k outcome = refl

-- the record of an act
abbrev pub record_of_act : ℕ → Act → By → Outcome → List Letter → Record
record_of_act name a by outcome letters = record { event = record { node = name; act = a }; life = 1; by = by; outcome = outcome; packets = letters }

-- a record of which nothing had come, filled with what came
pub filled_blank_is_act_record : {name : ℕ} {a : Act} {by : By} {blank : Record} {outcome outcome' : Outcome} {letters letters' : List Letter}
    → blank ≡ record_of_act name a by said.Idle [] → outcome' ≡ outcome → letters' ≡ letters
    → record blank { outcome = outcome'; packets = letters' } ≡ record_of_act name a by outcome letters
filled_blank_is_act_record item came sent = λ i. record (item i) { outcome = came i; packets = sent i }

stop_comes : (terms : Terms) (before : List Record) (name : ℕ) (by : By) (m : Node) → EachComesNext (IsLawfulRecord terms) before → name < 16
    → has_stopped before name ≡ false
    → IsEndOf ((world_after terms.founding before).nodes name) m → RecordComesOfStep terms.founding before name m (record_of_act name act.Stop by said.Stopped [])
unfolding happens
stop_comes terms before name by m follows low runs end =
    let item : Record = record_of_act name act.Stop by said.Stopped [] in
    let w : World = world_after terms.founding before in
    let kn = lawful_journal_knows_its_world terms before follows in
    let e : Event = item.event in
    let here : current w (place_of_name name) ≡ name = current_name_has_first_life terms.founding before kn (place_of_name name) ∙ first_name name low in
    let did : happens w e ≡ world_with_record (record w { stopped = w.stopped ++ name ∷ [] }) e said.Stopped =
    ap (λ (k : ℕ). world_after_act w e k act.Stop) here ∙ stop_now w e name (is_stopped w name) (kn.stopped name ∙ runs)
    in
    let made : record_of w e said.Stopped [] ≡ with_tag no_caller item =
    λ i. record { event = e; life = kn.lives (place_of_name name) i; by = no_caller; outcome = said.Stopped; packets = [] } in
    let next : IsNext terms.founding before item = ap (λ (v : World). v.records) did ∙ one_more w e name said.Stopped
    ∙ ap (λ (r : Record). w.records ++ r ∷ []) made in
    record {
      next = next;
      node = subst (λ (v : Node). IsEndOf v m)
          (sym (ap (λ (v : World). v.nodes name) (world_after_one_more_record terms.founding before item ∙ told_record_is_its_event terms.founding before item next ∙ did)
          ∙ left_alone w e name name said.Stopped)) end;
    }

-- ---- an act

-- the record comes next, by the law, and the node is its end
record Lands (terms : Terms) (before : List Record) (name : ℕ) (n : Node) (item : Record) : Type 0 where
  pub lawful : IsLawfulRecord terms before item
  pub node : IsEndOf ((world_after terms.founding (before ++ item ∷ [])).nodes name) n
  pub order : CoreFrontsAreInOrder n.core

comes : (terms : Terms) (before : List Record) (name : ℕ) (m n : Node) (a : Act) (by : By) (l : Option Letter) (what : Option NodeEvent) (outcome : Outcome)
    (letters : List Letter)
    → EachComesNext (IsLawfulRecord terms) before → name < 16 → MayAct before name a l → what ≡ what_of a l → IsEndOf ((world_after terms.founding before).nodes name) m
    → CoreFrontsAreInOrder m.core
    → Steps what m outcome letters n → RecordComesOfStep terms.founding before name n (record_of_act name a by outcome letters) × CoreFrontsAreInOrder n.core
comes terms before name m n a by l (Some what) outcome letters follows low may is end order steps =
    (record_comes_of_each_step terms before name m n l what (record_of_act name a by outcome letters) follows low refl refl may (sym is) end order steps.0, steps.1)
comes terms before name m n a by l None outcome letters follows low may is end order steps =
    let stop : a ≡ act.Stop = stops_then before name a l may (sym is) in
    let c : RecordComesOfStep terms.founding before name n (record_of_act name act.Stop by said.Stopped []) =
    subst (λ (k : Node). RecordComesOfStep terms.founding before name k (record_of_act name act.Stop by said.Stopped [])) (sym steps.0)
    (stop_comes terms before name by m follows low may.runs end)
    in (
      subst (RecordComesOfStep terms.founding before name n) (λ i. record_of_act name (sym stop i) by (sym steps.1 i) (sym steps.2 i)) c,
      subst (λ (k : Node). CoreFrontsAreInOrder k.core) (sym steps.0) order,
    )

lands : (plan : RacePlan) (name : ℕ) (seen before : List Record) (m n : Node) (a : Act) (by : By) (l : Option Letter) (what : Option NodeEvent)
    (outcome : Outcome) (letters : List Letter)
    → name < 16 → GoesBeyondWhatWasSeen seen before name by.caller → EachComesNext (IsLawfulRecord (terms_of plan)) before → BoxKeepsNode plan name seen m → MayAct seen name a l
    → IsTimely plan seen (record { node = name; act = a }) by → what ≡ what_of a l → Steps what m outcome letters n
    → Lands (terms_of plan) before name n (record_of_act name a by outcome letters)
lands plan name seen before m n a by l what outcome letters low beyond_ follows keeps may turn is steps =
    let terms : Terms = terms_of plan in
    let item : Record = record_of_act name a by outcome letters in
    let more : List Record = beyond_.more in
    let whole : EachComesNext (IsLawfulRecord terms) (seen ++ more) = subst (EachComesNext (IsLawfulRecord terms)) beyond_.is follows in
    let still : MayAct before name a l = subst (λ (rs : List Record). MayAct rs name a l) (sym beyond_.is)
    (may_still terms seen more name a l low whole beyond_.place_ may) in
    let far : All (λ r. place_of_name r.event.node ≢ place_of_name name) more =
    subst (λ (p : ℕ). All (λ (r : Record). place_of_name r.event.node ≢ p) more) (sym (low_place name low)) beyond_.place_ in
    let end : IsEndOf ((world_after plan.founding before).nodes name) m =
    subst (λ (v : Node). IsEndOf v m) (sym (ap (λ (rs : List Record). (world_after plan.founding rs).nodes name) beyond_.is
    ∙ nodes_stay_through_others_records plan.founding seen more name far)) keeps.end
    in
    let c = comes terms before name m n a by l what outcome letters follows low still is end keeps.order steps in
    let apart : All (RecordIsApart (place_of_name name) by.caller) more = subst (λ (p : ℕ). All (RecordIsApart p by.caller) more) (sym (low_place name low)) beyond_.apart in
    record {
      lawful = record {
        node = low;
        life = refl;
        act_ = may.race;
        next = c.0.next;
        turn = λ part. subst (λ (rs : List Record). is_turn (threadless_plan_of_terms terms) rs item.event by
            ≡ true) (sym beyond_.is) (turn_stays_through_others (threadless_plan_of_terms terms) seen more item.event by apart (turn.turn part));
        end_ = λ ends. subst (λ (rs : List Record). may_end (threadless_plan_of_terms terms) rs item.event by
            ≡ true) (sym beyond_.is) (end_stays_through_others (threadless_plan_of_terms terms) seen more item.event by apart (turn.end_ ends));
        stop = ap (has_stopped before) (first_name name low) ∙ still.runs;
        hears = λ number e.
            let h = still.hears number e in record {
              letter = h.letter;
              there = h.sent;
              its = ap (is_for h.letter) (first_name name low) ∙ h.its;
            };
      };
      node = c.0.node;
      order = c.1;
    }

-- ---- how far a place has come

fold_last : (numbers : List ℕ) (n : ℕ) → greatest_number (numbers ++ n ∷ []) ≡ max (greatest_number numbers) n
fold_last numbers n = fold-append max 0 numbers (n ∷ [])

-- the greatest of what the records of a place say, after one of its records
pub greatest_of_place_with_last : (f : Record → ℕ) (place : ℕ) (before : List Record) (r : Record) → (place_of_name r.event.node == place) ≡ true
    → greatest_number (map f (of_place place (before ++ r ∷ []))) ≡ max (greatest_number (map f (of_place place before))) (f r)
greatest_of_place_with_last f place before r its =
    rw (filter-append (λ (q : Record). place_of_name q.event.node == place) before (r ∷ []), its, map-append f (of_place place before) (r ∷ []))
    (fold_last (map f (of_place place before)) (f r))

max_thrice : (a b c : ℕ) → max (max a b) c ≡ max a (max b c)
max_thrice a b c = omega arith

nought_again : (n : ℕ) → or_nought (unless_nought n) ≡ n
nought_again zero = refl
nought_again (suc n) = refl

-- ---- boxes

pub open_box_was_not_closed : (name : ℕ) (seen : List Record) (closed : Option WireRefusal) (b : Boxed) → record { name = name; seen = seen; closed = closed } ≡ b
    → b.closed ≡ None → closed ≡ None
open_box_was_not_closed name seen closed b is open_ = ap (λ (x : Boxed). x.closed) is ∙ open_

pub numbers_left_in_box : (wire : TableId) (plan : RacePlan) (name : ℕ) (pass : Known) (m : Node) (far : ℕ) (last : Option ℕ) (stopped : Bool)
    (closed : Option WireRefusal) (b : Boxed)
    → record { name = name; seen = pass.seen; closed = closed } ≡ b → IsBox wire plan name pass m far last stopped closed → b.closed ≡ None
    → length b.seen ≤ most_events_of_run → HasNumbersLeft m
numbers_left_in_box wire plan name pass m far last stopped closed b is box open_ few =
    numbers_left_in_journal (terms_of plan) pass.seen name m box.lawful (subst (λ (x : Boxed). length x.seen ≤ most_events_of_run) (sym is) few)
    (box.node (open_box_was_not_closed name pass.seen closed b is open_)).end

-- what an act of a box is done with
pub record ActOfBoxIsDone (wire : TableId) (plan : RacePlan) (name : ℕ) (pass share : Known) (m n : Node) (far : ℕ) (last : Option ℕ) (stopped : Bool)
    (closed : Option WireRefusal)
    (a : Act) (by : By) (l : Option Letter) (what : Option NodeEvent) (outcome : Outcome) (letters : List Letter) : Type 0 where
  pub box : IsBox wire plan name pass m far last stopped closed
  pub runs : closed ≡ None
  pub share_ : IsShareOf wire plan by.caller share
  pub met : share.seen ≡ pass.seen
  pub may : MayAct pass.seen name a l
  pub turn : IsTimely plan pass.seen (record { node = name; act = a }) by
  pub asked : what ≡ what_of a l
  pub steps : Steps what m outcome letters n

pub act_of_box_is_done : (wire : TableId) (plan : RacePlan) (name : ℕ) (pass share : Known) (m n : Node) (far : ℕ) (last : Option ℕ) (stopped : Bool)
    (closed : Option WireRefusal)
    (a : Act) (by : By) (l : Option Letter) (what : Option NodeEvent) (outcome : Outcome) (letters : List Letter) (b : Boxed)
    → record { name = name; seen = pass.seen; closed = closed } ≡ b → IsBox wire plan name pass m far last stopped closed → b.closed ≡ None
    → IsShareOf wire plan by.caller share
    → share.seen ≡ b.seen → MayAct b.seen b.name a l → IsTimely plan b.seen (record { node = b.name; act = a }) by → what ≡ what_of a l
    → Steps what m outcome letters n
    → ActOfBoxIsDone wire plan name pass share m n far last stopped closed a by l what outcome letters
act_of_box_is_done wire plan name pass share m n far last stopped closed a by l what outcome letters b is box open_ share_ met may turn asked steps = record {
  box = box;
  runs = open_box_was_not_closed name pass.seen closed b is open_;
  share_ = share_;
  met = met ∙ ap (λ (x : Boxed). x.seen) (sym is);
  may = subst (λ (x : Boxed). MayAct x.seen x.name a l) (sym is) may;
  turn = subst (λ (x : Boxed). IsTimely plan x.seen (record { node = x.name; act = a }) by) (sym is) turn;
  asked = asked;
  steps = steps;
}

module _ (wire : TableId) (plan : RacePlan) (name : ℕ) (pass share : Known) (m n : Node) (far : ℕ) (last : Option ℕ) (stopped : Bool)
    (closed : Option WireRefusal)
    (a : Act) (by : By) (l : Option Letter) (what : Option NodeEvent) (outcome : Outcome) (letters : List Letter)
    (d : ActOfBoxIsDone wire plan name pass share m n far last stopped closed a by l what outcome letters) where
  -- where others added since
  lands_at : (before : List Record) → GoesOn pass.keys pass.seen before → GoesOn share.keys share.seen before → EachComesNext (IsLawfulRecord (terms_of plan)) before
      → GoesBeyondWhatWasSeen pass.seen before name by.caller × Lands (terms_of plan) before name n (record_of_act name a by outcome letters)
  lands_at before goes its follows =
      let mine : GoesOn (Place name ∷ []) pass.seen before = subst (λ (ks : List SharerKey). GoesOn ks pass.seen before) d.box.keys goes in
      let theirs : GoesOn (Caller by.caller ∷ []) share.seen before = subst (λ (ks : List SharerKey). GoesOn ks share.seen before) d.share_.keys its in
      let far_ = journal_goes_beyond_seen pass.seen share.seen before name by.caller d.met mine theirs in (
        far_,
        lands plan name pass.seen before m n a by l what outcome letters d.box.place far_ follows (d.box.node d.runs) d.may d.turn d.asked d.steps,
      )

  pub box_record_is_ready : (id : TableId) (item : Record) → id ≡ wire → item ≡ record_of_act name a by outcome letters → length letters ≤ 9
      → IsReady (IsLawfulRecord pass.terms) id pass share item
  box_record_is_ready id item same is few = subst (IsReady (IsLawfulRecord pass.terms) id pass share) (sym is) (record {
    own = (d.box.own ∙ sym same, d.share_.own ∙ sym same);
    terms = d.share_.terms ∙ sym d.box.terms;
    place = d.box.keys ∙ ap (λ (k : ℕ). Place k ∷ []) (sym (low_place name d.box.place));
    caller = d.share_.keys;
    few = omega arith;
    next_ = λ before goes its follows.
        subst (λ (t : Terms). IsLawfulRecord t before (record_of_act name a by outcome letters)) (sym d.box.terms)
        (lands_at before goes its (subst (λ (t : Terms). EachComesNext (IsLawfulRecord t) before) d.box.terms follows)).1.lawful;
  })

  pub box_after_committed_act : (item : Record) (count : ℕ) (pass' share' : Known) (far' : ℕ) (last' : Option ℕ) (stopped' : Bool) → item ≡ record_of_act name a by outcome letters
      → Committed (IsLawfulRecord pass.terms) pass share item count pass' share' → far' ≡ max (max far (packet_heard_by_act a)) (letter_lost_by_part by.part)
      → last' ≡ unless_nought (max (or_nought last) (packet_heard_by_act a))
      → stopped' ≡ (stopped || is_stop a) → EachComesNext (IsLawfulRecord pass.terms) pass'.seen → IsBox wire plan name pass' n far' last' stopped' closed
  box_after_committed_act item count pass' share' far' last' stopped' is done far_is last_is stopped_is lawful =
      let r : Record = record_of_act name a by outcome letters in
      let before : List Record = done.before in
      let both = lands_at before done.pass done.share (subst (λ (t : Terms). EachComesNext (IsLawfulRecord t) before) d.box.terms done.lawful) in
      let seen : pass'.seen ≡ before ++ r ∷ [] = ap (λ (p : Known). p.seen) done.pass_after ∙ ap (λ (x : Record). before ++ x ∷ []) is in
      let goes : GoesOn (Place name ∷ []) pass.seen before = subst (λ (ks : List SharerKey). GoesOn ks pass.seen before) d.box.keys done.pass in
      let same_place : of_place name before ≡ of_place name pass.seen = goes.own (Place name) (own_key_times_positive (Place name)) in
      let here : (place_of_name name == name) ≡ true = eq-eqb (place_of_name name) name (low_place name d.box.place) in
      let first : acting_name_of_record r ≡ name = first_name name d.box.place in
      let is_first : (acting_name_of_record r == name) ≡ true = eq-eqb (acting_name_of_record r) name first in
      let runs : has_stopped before name ≡ false = ap (has_stopped before) (sym first) ∙ both.1.lawful.stop in
      record {
        own = ap (λ (p : Known). p.wire) done.pass_after ∙ d.box.own;
        terms = ap (λ (p : Known). p.terms) done.pass_after ∙ d.box.terms;
        keys = ap (λ (p : Known). p.keys) done.pass_after ∙ d.box.keys;
        place = d.box.place;
        lawful = subst (λ (t : Terms). EachComesNext (IsLawfulRecord t) pass'.seen) d.box.terms lawful;
        node = λ _. record {
          end = subst (λ (rs : List Record). IsEndOf ((world_after plan.founding rs).nodes name) n)
              (sym seen) both.1.node;
          order = both.1.order;
        };
        cursor_ = λ _. far_is ∙ max_thrice far (packet_heard_by_act a) (letter_lost_by_part by.part) ∙ ap (λ (k : ℕ). max k (passed_number r)) (d.box.cursor_ d.runs)
            ∙ ap (λ (rs : List Record). max (greatest_number (map passed_number rs)) (passed_number r)) (sym same_place)
            ∙ sym (greatest_of_place_with_last passed_number name before r here) ∙ ap (cursor name) (sym seen);
        last_ = λ _.
            let heard : Record → ℕ = λ q. packet_heard_by_act q.event.act in
            last_is ∙ ap (λ (o : Option ℕ). unless_nought (max (or_nought o) (packet_heard_by_act a))) (d.box.last_ d.runs)
            ∙ ap (λ (k : ℕ). unless_nought (max k (packet_heard_by_act a))) (nought_again (greatest_number (map heard (of_place name pass.seen))))
            ∙ ap (λ (rs : List Record). unless_nought (max (greatest_number (map heard rs)) (packet_heard_by_act a))) (sym same_place)
            ∙ ap unless_nought (sym (greatest_of_place_with_last heard name before r here)) ∙ ap (last_heard name) (sym seen);
        stopped_ = λ _.
            stopped_is ∙ ap (λ (b : Bool). b || is_stop a) (d.box.stopped_ d.runs ∙ d.may.runs ∙ sym runs)
            ∙ sym (has_stopped_after_record before r name ∙ rw is_first (split_on_bool (is_stop a) (λ t. rw t refl) (λ f. rw f refl)))
            ∙ ap (λ (rs : List Record). has_stopped rs name) (sym seen);
        spent = λ e. absurd (none-some _ (sym d.runs ∙ e));
      }

  -- what it leaves
  pub committed_box_has_acted : (b : Boxed) (item : Record) (count : ℕ) (pass' share' : Known) (came : Came) → record { name = name; seen = pass.seen; closed = closed } ≡ b
      → item ≡ record_of_act name a by outcome letters → Committed (IsLawfulRecord pass.terms) pass share item count pass' share' → came.outcome ≡ outcome
      → came.round ≡ round_in letters
      → Acted b (record { name = name; seen = pass'.seen; closed = closed }) share share' a by came
  committed_box_has_acted b item count pass' share' came view is done told_ round =
      subst (λ (x : Boxed). Acted x (record { name = name; seen = pass'.seen; closed = closed }) share share' a by came) view (record {
        before = done.before;
        item = item;
        is = record {
          node = ap (λ (r : Record). r.event.node) is;
          act_ = ap (λ (r : Record). r.event.act) is;
          life = ap (λ (r : Record). r.life) is;
          by_ = ap (λ (r : Record). r.by) is;
          outcome = ap (λ (r : Record). r.outcome) is ∙ sym told_;
          round = ap (λ (r : Record). round_in r.packets) is ∙ sym round;
        };
        box = subst (λ (ks : List SharerKey). GoesOn ks pass.seen done.before) d.box.keys done.pass;
        caller = done.share;
        seen = ap (λ (p : Known). p.seen) done.pass_after;
        share_ = done.share_after;
        open_ = d.runs;
      })

-- a box whose pass has seen more, without a record of its place
open_sees : (wire : TableId) (plan : RacePlan) (name : ℕ) (pass pass' : Known) (m : Node) (far : ℕ) (last : Option ℕ) (stopped : Bool)
    (closed : Option WireRefusal)
    → IsBox wire plan name pass m far last stopped closed → closed ≡ None → Sees pass pass' → EachComesNext (IsLawfulRecord pass.terms) pass'.seen
    → IsBox wire plan name pass' m far last stopped closed
open_sees wire plan name pass pass' m far last stopped closed box runs sees lawful =
    let goes : GoesOn (Place name ∷ []) pass.seen pass'.seen = subst (λ (ks : List SharerKey). GoesOn ks pass.seen pass'.seen) box.keys sees.goes in
    let same_place : of_place name pass'.seen ≡ of_place name pass.seen = goes.own (Place name) (own_key_times_positive (Place name)) in
    let more : List Record = drop (length pass.seen) pass'.seen in
    let is : pass'.seen ≡ pass.seen ++ more = log_is_start_and_rest pass'.seen pass.seen goes.begins in
    let follows : EachComesNext (IsLawfulRecord (terms_of plan)) pass'.seen = subst (λ (t : Terms). EachComesNext (IsLawfulRecord t) pass'.seen) box.terms lawful in
    let none = later_records_lack_key (Place name) pass.seen more (ap (of_key (Place name)) (sym is) ∙ same_place) in
    let far_ : All (λ r. place_of_name r.event.node ≢ place_of_name name) more =
    λ k d h. unequal_test_means_different (place_of_name (get_or more k d).event.node) (place_of_name name)
    (ap (λ (p : ℕ). place_of_name (get_or more k d).event.node == p) (low_place name box.place) ∙ none k d h)
    in
    let lives = later_records_have_first_lives (terms_of plan) pass.seen more (subst (EachComesNext (IsLawfulRecord (terms_of plan))) is follows) in
    let keeps = box.node runs in
    record {
      own = sees.wire ∙ box.own;
      terms = sees.terms ∙ box.terms;
      keys = sees.keys ∙ box.keys;
      place = box.place;
      lawful = follows;
      node = λ _. record {
        end = subst (λ (v : Node). IsEndOf v m) (sym (ap (λ (rs : List Record). (world_after plan.founding rs).nodes name) is
            ∙ nodes_stay_through_others_records plan.founding pass.seen more name far_)) keeps.end;
        order = keeps.order;
      };
      cursor_ = λ _. box.cursor_ runs ∙ ap (λ (rs : List Record). greatest_number (map passed_number rs)) (sym same_place);
      last_ = λ _. box.last_ runs ∙ ap (λ (rs : List Record). unless_nought (greatest_number (map (λ q. packet_heard_by_act q.event.act) rs))) (sym same_place);
      stopped_ = λ _. box.stopped_ runs
          ∙ sym (ap (λ (rs : List Record). has_stopped rs name) is ∙ has_stopped_in_longer_records pass.seen more name
          ∙ or_with_second_false (has_stopped pass.seen name) (has_stopped more name) (others_records_stop_no_name more name far_ lives box.place));
      spent = λ e. absurd (none-some _ (sym runs ∙ e));
    }

pub box_sees_more_records : (wire : TableId) (plan : RacePlan) (name : ℕ) (pass pass' : Known) (m : Node) (far : ℕ) (last : Option ℕ) (stopped : Bool)
    (closed : Option WireRefusal)
    → IsBox wire plan name pass m far last stopped closed → Sees pass pass' → EachComesNext (IsLawfulRecord pass.terms) pass'.seen → length pass'.seen ≤ most_events_of_run
    → IsBox wire plan name pass' m far last stopped closed
box_sees_more_records wire plan name pass pass' m far last stopped None box sees lawful few =
    open_sees wire plan name pass pass' m far last stopped None box refl sees lawful
box_sees_more_records wire plan name pass pass' m far last stopped (Some refusal) box sees lawful few = record {
  own = sees.wire ∙ box.own;
  terms = sees.terms ∙ box.terms;
  keys = sees.keys ∙ box.keys;
  place = box.place;
  lawful = subst (λ (t : Terms). EachComesNext (IsLawfulRecord t) pass'.seen) box.terms lawful;
  node = λ e. absurd (none-some refusal (sym e));
  cursor_ = λ e. absurd (none-some refusal (sym e));
  last_ = λ e. absurd (none-some refusal (sym e));
  stopped_ = λ e. absurd (none-some refusal (sym e));
  spent = λ e.
      let more : List Record = drop (length pass.seen) pass'.seen in
      let long : length pass'.seen ≡ length (pass.seen ++ more) = ap length (log_is_start_and_rest pass'.seen pass.seen sees.goes.begins) in
      let was = box.spent e in
      omega (arith, length-append pass.seen more);
}

-- an open box that sees more
pub open_box_sees_more_records : (wire : TableId) (plan : RacePlan) (name : ℕ) (pass pass' : Known) (m : Node) (far : ℕ) (last : Option ℕ) (stopped : Bool)
    (closed : Option WireRefusal) (b : Boxed)
    → record { name = name; seen = pass.seen; closed = closed } ≡ b → IsBox wire plan name pass m far last stopped closed → b.closed ≡ None → Sees pass pass'
    → EachComesNext (IsLawfulRecord pass.terms) pass'.seen → IsBox wire plan name pass' m far last stopped closed
open_box_sees_more_records wire plan name pass pass' m far last stopped closed b is box open_ sees lawful =
    open_sees wire plan name pass pass' m far last stopped closed box (open_box_was_not_closed name pass.seen closed b is open_) sees lawful

pub box_records_of_place_stay : (wire : TableId) (plan : RacePlan) (name : ℕ) (pass pass' : Known) (m : Node) (far : ℕ) (last : Option ℕ) (stopped : Bool)
    (closed : Option WireRefusal)
    → IsBox wire plan name pass m far last stopped closed → Sees pass pass' → GoesOn (Place name ∷ []) pass.seen pass'.seen
box_records_of_place_stay wire plan name pass pass' m far last stopped closed box sees = subst (λ (ks : List SharerKey). GoesOn ks pass.seen pass'.seen) box.keys sees.goes

pub closed_box_gives_its_refusal : (wire : TableId) (plan : RacePlan) (name : ℕ) (pass : Known) (m : Node) (far : ℕ) (last : Option ℕ) (stopped : Bool)
    (closed : Option WireRefusal) (refusal : WireRefusal)
    → IsBox wire plan name pass m far last stopped closed → closed ≡ Some refusal → IsRefused pass.seen name (refusal_answer refusal)
closed_box_gives_its_refusal wire plan name pass m far last stopped closed refusals.NoMemory box e = tt
closed_box_gives_its_refusal wire plan name pass m far last stopped closed refusals.Spent box e = box.spent e

-- a box that runs still does where it has seen more
pub running_box_still_runs : (wire : TableId) (plan : RacePlan) (name : ℕ) (pass : Known) (m : Node) (far : ℕ) (last : Option ℕ) (stopped : Bool)
    (closed : Option WireRefusal) (old new : Boxed)
    → record { name = name; seen = pass.seen; closed = closed } ≡ new → IsBox wire plan name pass m far last stopped closed → BoxLooks old new
    → has_stopped old.seen old.name ≡ false
    → has_stopped new.seen new.name ≡ false
running_box_still_runs wire plan name pass m far last stopped closed old new is box looks runs =
    let n_is : name ≡ old.name = ap (λ (b : Boxed). b.name) is ∙ looks.name in
    let low : old.name < 16 = subst (λ (n : ℕ). n < 16) n_is box.place in
    let goes = looks.goes in
    let more : List Record = drop (length old.seen) new.seen in
    let whole : new.seen ≡ old.seen ++ more = log_is_start_and_rest new.seen old.seen goes.begins in
    let none = later_records_lack_key (Place old.name) old.seen more (ap (of_key (Place old.name)) (sym whole) ∙ goes.own (Place old.name) (own_key_times_positive (Place old.name))) in
    let far_ : All (λ r. place_of_name r.event.node ≢ place_of_name old.name) more =
    λ k d h. unequal_test_means_different (place_of_name (get_or more k d).event.node) (place_of_name old.name)
    (ap (λ (p : ℕ). place_of_name (get_or more k d).event.node == p) (low_place old.name low) ∙ none k d h)
    in
    let follows : EachComesNext (IsLawfulRecord (terms_of plan)) (old.seen ++ more) =
    subst (EachComesNext (IsLawfulRecord (terms_of plan))) (ap (λ (b : Boxed). b.seen) is ∙ whole) box.lawful
    in
    let lives = later_records_have_first_lives (terms_of plan) old.seen more follows in
    ap (has_stopped new.seen) looks.name ∙ ap (λ (rs : List Record). has_stopped rs old.name) whole ∙ has_stopped_in_longer_records old.seen more old.name
    ∙ or_with_second_false (has_stopped old.seen old.name) (has_stopped more old.name) (others_records_stop_no_name more old.name far_ lives low) ∙ runs
