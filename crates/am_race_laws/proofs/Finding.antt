-- A turn that a box finds is one of its call.
use Rattle.am_race_laws.proofs.Words.{◌≡◌, ◌≢◌, inl, inr, ℕ, zero, suc, ◌<◌, List, [], ◌∷◌, ◌++◌, length, drop, get_or, Bool, true, false, true≢false, Option}
use Rattle.am_race_laws.proofs.Words.{Some, None, sym, refl, ap, ◌∙◌, subst, arith, append_assoc, append-nil, eq-eqb, map, if◌then◌else◌, not, ◌==◌, ◌&&◌}
use Rattle.am_race_laws.proofs.Words.{All, count_by, nat_lt, is_none, list_any, flat_map-append, none-some, place_of_name, name_of_place_and_life, name_is_less, names_of, Letter, Act}
use Rattle.am_race_laws.proofs.Words.{By, Event, Turn, Record, RacePlan, next_for, letters_of_records, Node, World, current, names_waited_for, Choice, Luck, again, choice_of}
use Rattle.am_race_laws.proofs.Words.{act_of, Terms, EachComesNext, has_stopped, world_after, of_place, of_call, own_of, is_turn_part, up_to_last, is_either, is_ready}
use Rattle.am_race_laws.proofs.Words.{cursor, last_heard, words_drawn, choice_after, follows, is_waited, is_least, waits_in_vain, is_choice, is_turn_of}
use Rattle.am_race_laws.proofs.Words.{turns_at, is_turn, greatest_number, passed_number, unless_nought, packet_heard_by_act, RecordIsApart, KnowledgeIsSame, IsLawfulRecord, threadless_plan_of_terms, terms_of}
use Rattle.am_race_laws.proofs.Words.{caller_luck_after, node_by, lost_in, Gave, Found, turn_event_at, turn_by, Boxed, IsBox, IsShareOf, BoxLooks, TableId, Known, Sees, SharerKey}
use Rattle.am_race_laws.proofs.Words.{WireRefusal, Place, Caller, of_key, GoesOn, log_is_start_and_rest, records_go_on_through_both}
use Rattle.am_race_laws.proofs.{Apart.records_of_others_are_apart, Knows.lawful_journal_knows_its_world, Knows.current_name_has_first_life, Nexts.nodes_stay_through_others_records, Nexts.has_stopped_in_longer_records, Stays.next_letter_stays_among_more}
use Rattle.am_race_laws.proofs.{Stays.all_of_cons_gives_both, Boxing.GoesBeyondWhatWasSeen, Boxing.journal_goes_beyond_seen, Boxing.later_records_lack_key, Boxing.own_key_times_positive, Boxing.unequal_test_means_different, Turning.next_letter_was_sent}
use Rattle.am_group.specs.declared.event.Act.TheVariants as act
use Rattle.am_shared_journal_defs.specs.declared.choice.Choice.TheVariants as choice
use Rattle.std.proofs.lemmas.Bool.{and_parts, and_from, not-true, or_left}
use Rattle.am_race_laws.proofs.Words.{split_on_bool}

-- ---- what is known

known_first : (place caller : ℕ) (before : List Record) → (rest : List Record) × (before ≡ up_to_last place caller before ++ rest)
unfolding up_to_last
known_first place caller [] = ([], refl)
known_first place caller (r ∷ before) = let k = known_first place caller before in split_on_bool (list_any (is_either place caller) (r ∷ before))
    (λ t. (k.0, rw t (ap (λ (rs : List Record). r ∷ rs) k.1)))
    (λ n. (r ∷ before, rw n refl))

-- what others added leaves it, and what its caller and its call did
left_by : (place caller call : ℕ) (before more : List Record) → All (RecordIsApart place caller) more → KnowledgeIsSame place caller call before (before ++ more)
left_by place caller call before [] apart = subst (KnowledgeIsSame place caller call before) (sym (append-nil before))
    (record { known = refl; place = refl; caller = refl; call = refl })
left_by place caller call before (r ∷ rest) apart =
    let a = all_of_cons_gives_both (RecordIsApart place caller) r rest apart in
    let one = records_of_others_are_apart place caller call before r a.0 in
    let more = left_by place caller call (before ++ r ∷ []) rest a.1 in
    subst (KnowledgeIsSame place caller call before) (append_assoc before (r ∷ []) rest) (record {
      known = more.known ∙ one.known;
      place = more.place ∙ one.place;
      caller = more.caller ∙ one.caller;
      call = more.call ∙ one.call;
    })

-- ---- what fewer records tell

fewer : {A : Type 0} (f g : A → Bool) (xs : List A) → ((x : A) → f x ≡ true → g x ≡ true) → list_any g xs ≡ false → list_any f xs ≡ false
fewer f g [] sub none = refl
fewer f g (x ∷ xs) sub none = split_on_bool (g x)
    (λ t. let e = rw t at none in absurd (cc))
    (λ no. split_on_bool (f x) (λ t. let e = sub x t in absurd (cc)) (λ n. rw n (fewer f g xs sub (rw no at none))))

waited_more : (m : Node) (before more : List Record) (name : ℕ) → is_waited m before name ≡ true → is_waited m (before ++ more) name ≡ true
waited_more m before more name is =
    let t = and_parts _ _ is in and_from _ _ t.0 (has_stopped_in_longer_records before more name ∙ or_left (has_stopped before name) (has_stopped more name) t.1)

vain_fewer : (m : Node) (knew rest : List Record) → waits_in_vain m (knew ++ rest) ≡ false → waits_in_vain m knew ≡ false
vain_fewer m knew rest none = fewer (is_waited m knew) (is_waited m (knew ++ rest)) (names_of (names_waited_for m.ballot)) (λ x is. waited_more m knew rest x is) none

least_fewer : (m : Node) (knew rest : List Record) (name : ℕ) → is_least m (knew ++ rest) name ≡ true → is_least m knew name ≡ true
least_fewer m knew rest name is =
    ap not (fewer (λ other. name_is_less other name && is_waited m knew other) (λ other. name_is_less other name && is_waited m (knew ++ rest) other)
    (names_of (names_waited_for m.ballot))
    (λ x e. let t = and_parts _ _ e in and_from _ _ t.0 (waited_more m knew rest x t.1)) (not-true _ is))

letters_more : (before more : List Record) → letters_of_records (before ++ more) ≡ letters_of_records before ++ letters_of_records more
letters_more before more = flat_map-append (λ (r : Record). r.packets) before more

ahead_fewer : (knew rest : List Record) (name after : ℕ) → next_for (letters_of_records (knew ++ rest)) name after ≡ None → next_for (letters_of_records knew) name after ≡ None
ahead_fewer knew rest name after none = by_ahead (next_for (letters_of_records knew) name after) refl
  where
    by_ahead : (o : Option ℕ) → next_for (letters_of_records knew) name after ≡ o → next_for (letters_of_records knew) name after ≡ None
    by_ahead None e = e
    by_ahead (Some n) e =
        absurd (none-some n (sym none ∙ ap (λ (ls : List Letter). next_for ls name after) (letters_more knew rest)
        ∙ next_letter_stays_among_more (letters_of_records knew) (letters_of_records rest) name after n e))

-- ---- what a box finds

-- nobody is waited for in vain, and a choice says what is done
record Chosen (plan : RacePlan) (name caller : ℕ) (seen one two : List Record) (a : Act) (lost : ℕ) (said : Choice) : Type 0 where
  pub nobody : waits_in_vain (node_by plan one name) one ≡ false
  pub is : said ≡ choice_of (caller_luck_after plan caller (words_drawn caller seen)) (next_for (letters_of_records two) name (cursor name seen)) (last_heard name seen)
  pub act_ : a ≡ act_of said
  pub lost_ : lost ≡ lost_in said

-- ---- choices

is_tick : Choice → Bool
is_tick choice.Tick = true
is_tick _ = false

lose_only : (b c : Bool) (n k : ℕ) (last : Option ℕ) → (if b then choice.Lose n else if c then again n last else choice.Hear n) ≡ choice.Lose k → n ≡ k
lose_only true c n k last e = cc
lose_only false true n k None e = cc
lose_only false true n k (Some l) e = cc
lose_only false false n k last e = cc

never_ticks : (b c : Bool) (n : ℕ) (last : Option ℕ) → is_tick (if b then choice.Lose n else if c then again n last else choice.Hear n) ≡ false
unfolding is_tick
never_ticks true c n last = refl
never_ticks false true n None = refl
never_ticks false true n (Some l) = refl
never_ticks false false n last = refl

follows_itself : (said : Choice) → follows said (act_of said) (lost_in said) ≡ true
follows_itself choice.Tick = refl
follows_itself (choice.Lose number) = eq-eqb number number refl
follows_itself (choice.Hear number) = and_from _ _ (eq-eqb number number refl) refl
follows_itself (choice.Repeat number) = and_from _ _ (eq-eqb number number refl) refl

-- ---- it is a turn

module _ (plan : RacePlan) (name caller call : ℕ) (seen one two three : List Record) (low : name < 16) (whole : EachComesNext (IsLawfulRecord (terms_of plan)) three)
    (far : GoesBeyondWhatWasSeen seen three name caller) (from_one : List Record) (past_one : List Record) (is_one : one ≡ seen ++ from_one) (to_three : three
    ≡ one ++ past_one)
    (past_two : List Record) (two_three : three ≡ two ++ past_two) (from_two : List Record) (is_two : two ≡ seen ++ from_two)
    (far_one : All (λ r. place_of_name r.event.node ≢ place_of_name name) past_one)
    (unready : is_ready (node_by plan seen name) (own_of (of_call caller call seen)) ≡ false) where
  left : KnowledgeIsSame name caller call seen three
  left = subst (KnowledgeIsSame name caller call seen) (sym far.is) (left_by name caller call seen far.more far.apart)

  place_same : place_of_name name ≡ name
  place_same = omega arith

  abbrev knew : List Record
  knew = up_to_last name caller three

  -- what is known had been seen at each look
  knew_in : (rest : List Record) × (seen ≡ knew ++ rest)
  knew_in = let k = known_first name caller seen in (k.0, k.1 ∙ ap (λ (rs : List Record). rs ++ k.0) (sym left.known))

  in_one : one ≡ knew ++ (knew_in.0 ++ from_one)
  in_one = is_one ∙ ap (λ (rs : List Record). rs ++ from_one) knew_in.1 ∙ append_assoc knew knew_in.0 from_one

  in_two : two ≡ knew ++ (knew_in.0 ++ from_two)
  in_two = is_two ∙ ap (λ (rs : List Record). rs ++ from_two) knew_in.1 ∙ append_assoc knew knew_in.0 from_two

  far_seen : All (λ r. place_of_name r.event.node ≢ place_of_name name) far.more
  far_seen = subst (λ (p : ℕ). All (λ (r : Record). place_of_name r.event.node ≢ p) far.more) (sym place_same) far.place_

  node_seen : node_by plan three name ≡ node_by plan seen name
  node_seen = ap (λ (rs : List Record). node_by plan rs name) far.is ∙ nodes_stay_through_others_records plan.founding seen far.more name far_seen

  node_one : node_by plan three name ≡ node_by plan one name
  node_one = ap (λ (rs : List Record). node_by plan rs name) to_three ∙ nodes_stay_through_others_records plan.founding one past_one name far_one

  -- in the terms of a turn at this name
  turn_at : (a : Act) (lost : ℕ) → is_turn_of (threadless_plan_of_terms (terms_of plan)) three knew (node_by plan three name) name caller a lost ≡ true
      → is_turn (threadless_plan_of_terms (terms_of plan)) three (record { node = name; act = a }) (record { caller = caller; call = call; part = Turn lost }) ≡ true
  unfolding is_turn
  turn_at a lost is =
      let w : World = world_after plan.founding three in
      let e : Event = record { node = name; act = a } in
      let by : By = record { caller = caller; call = call; part = Turn lost } in
      let here : current w (place_of_name name) ≡ name = current_name_has_first_life plan.founding three (lawful_journal_knows_its_world (terms_of plan) three whole) (place_of_name name)
      ∙ (let n : name_of_place_and_life (place_of_name name) 1 ≡ name = omega arith in n) in
      let ready : not (is_ready (w.nodes name) (own_of (of_call caller call three))) ≡ true =
      ap (λ (m : Node). not (is_ready m (own_of (of_call caller call three)))) node_seen
      ∙ ap (λ (rs : List Record). not (is_ready (node_by plan seen name) (own_of rs))) left.call ∙ ap not unready
      in
      let turn : is_turn_of (threadless_plan_of_terms (terms_of plan)) three (up_to_last (place_of_name name) caller three) (w.nodes name) name caller a lost ≡ true =
      ap (λ (p : ℕ). is_turn_of (threadless_plan_of_terms (terms_of plan)) three (up_to_last p caller three) (w.nodes name) name caller a lost) place_same ∙ is
      in
      subst (λ (k : ℕ). turns_at (threadless_plan_of_terms (terms_of plan)) three w k e by ≡ true) (sym here) (and_from _ _ ready turn)

  given_turn : (a : Act) (lost : ℕ) → Gave plan name one a lost
      → is_turn (threadless_plan_of_terms (terms_of plan)) three (record { node = name; act = a }) (record { caller = caller; call = call; part = Turn lost }) ≡ true
  given_turn a lost given =
      let m : Node = node_by plan one name in
      let waited : is_waited (node_by plan three name) three given.other ≡ true =
      ap (λ (n : Node). is_waited n three given.other) node_one ∙ ap (λ (rs : List Record). is_waited m rs given.other) to_three
      ∙ waited_more m one past_one given.other given.gives.0
      in
      let least : is_least (node_by plan three name) knew given.other ≡ true =
      ap (λ (n : Node). is_least n knew given.other) node_one
      ∙ least_fewer m knew (knew_in.0 ++ from_one) given.other (ap (λ (rs : List Record). is_least m rs given.other) (sym in_one) ∙ given.gives.1)
      in
      turn_at a lost (ap (λ (x : Act). is_turn_of (threadless_plan_of_terms (terms_of plan)) three knew (node_by plan three name) name caller x lost) given.act_
      ∙ ap (λ (l : ℕ). is_turn_of (threadless_plan_of_terms (terms_of plan)) three knew (node_by plan three name) name caller (act.GiveUp given.other) l) given.lost_
      ∙ and_from _ _ waited least)

  same_cursor : cursor (place_of_name name) three ≡ cursor name seen
  same_cursor = ap (λ (p : ℕ). cursor p three) place_same ∙ ap (λ (rs : List Record). greatest_number (map passed_number rs)) left.place

  same_last : last_heard (place_of_name name) three ≡ last_heard name seen
  same_last = ap (λ (p : ℕ). last_heard p three) place_same ∙ ap
      (λ (rs : List Record). unless_nought (greatest_number (map (λ r. packet_heard_by_act r.event.act) rs))) left.place

  same_words : words_drawn caller three ≡ words_drawn caller seen
  same_words = ap (λ (rs : List Record). count_by (λ r. is_turn_part r.by.part && nat_lt 0 (passed_number r)) rs) left.caller

  nobody_known : waits_in_vain (node_by plan one name) one ≡ false → not (waits_in_vain (node_by plan three name) knew) ≡ true
  nobody_known none =
      ap not (ap (λ (m : Node). waits_in_vain m knew) node_one ∙ vain_fewer (node_by plan one name) knew (knew_in.0 ++ from_one)
      (ap (λ (rs : List Record). waits_in_vain (node_by plan one name) rs) (sym in_one) ∙ none))

  chosen_turn : (a : Act) (lost : ℕ) (said : Choice) → Chosen plan name caller seen one two a lost said
      → is_turn (threadless_plan_of_terms (terms_of plan)) three (record { node = name; act = a }) (record { caller = caller; call = call; part = Turn lost }) ≡ true
  unfolding is_tick
  chosen_turn a lost said c =
      turn_at a lost (subst (λ (t : Act × ℕ). is_turn_of (threadless_plan_of_terms (terms_of plan)) three knew (node_by plan three name) name caller t.0 t.1
      ≡ true) (λ i. (sym c.act_ i, sym c.lost_ i))
      (by_ahead (next_for (letters_of_records two) name (cursor name seen)) refl said c.is))
    where
      luck : Luck
      luck = caller_luck_after plan caller (words_drawn caller seen)

      nobody : not (waits_in_vain (node_by plan three name) knew) ≡ true
      nobody = nobody_known c.nobody

      -- the choice is that by all letters
      by_all : (n : ℕ) → next_for (letters_of_records two) name (cursor name seen) ≡ Some n → (x : Choice) → x ≡ choice_of luck (Some n) (last_heard name seen)
          → is_choice (threadless_plan_of_terms (terms_of plan)) three (place_of_name name) name caller (act_of x) (lost_in x) ≡ true
      by_all n e x is =
          let there : next_for (letters_of_records three) name (cursor (place_of_name name) three) ≡ Some n =
          ap (next_for (letters_of_records three) name) same_cursor ∙ ap (λ (ls : List Letter). next_for ls name (cursor name seen)) (ap letters_of_records two_three
          ∙ letters_more two past_two)
          ∙ next_letter_stays_among_more (letters_of_records two) (letters_of_records past_two) name (cursor name seen) n e
          in
          let said_ : choice_after (threadless_plan_of_terms (terms_of plan)) caller (words_drawn caller three) (next_for (letters_of_records three) name (cursor (place_of_name name) three))
          (last_heard (place_of_name name) three) ≡ x =
          ap (λ (k : ℕ). choice_after (threadless_plan_of_terms (terms_of plan)) caller k (next_for (letters_of_records three) name (cursor (place_of_name name) three))
          (last_heard (place_of_name name) three)) same_words
          ∙ ap (λ (o : Option ℕ). choice_of luck o (last_heard (place_of_name name) three)) there ∙ ap (choice_of luck (Some n)) same_last ∙ sym is
          in
          ap (λ (y : Choice). follows y (act_of x) (lost_in x)) said_ ∙ follows_itself x

      by_choice : (n : ℕ) → next_for (letters_of_records two) name (cursor name seen) ≡ Some n → 0 < n → (x : Choice)
          → x ≡ choice_of luck (Some n) (last_heard name seen) → is_tick x ≡ false
          → is_turn_of (threadless_plan_of_terms (terms_of plan)) three knew (node_by plan three name) name caller (act_of x) (lost_in x) ≡ true
      by_choice n e some choice.Tick is ticks = absurd (true≢false ticks)
      by_choice n e some (choice.Lose zero) is ticks = let z = lose_only _ _ n 0 (last_heard name seen) (sym is) in absurd (omega arith)
      by_choice n e some (choice.Lose (suc k)) is ticks = and_from _ _ nobody (by_all n e (choice.Lose (suc k)) is)
      by_choice n e some (choice.Hear k) is ticks = and_from _ _ nobody (by_all n e (choice.Hear k) is)
      by_choice n e some (choice.Repeat k) is ticks = and_from _ _ nobody (by_all n e (choice.Repeat k) is)

      by_ahead : (o : Option ℕ) → next_for (letters_of_records two) name (cursor name seen) ≡ o → (x : Choice)
          → x ≡ choice_of luck (next_for (letters_of_records two) name (cursor name seen)) (last_heard name seen)
          → is_turn_of (threadless_plan_of_terms (terms_of plan)) three knew (node_by plan three name) name caller (act_of x) (lost_in x) ≡ true
      by_ahead None e x is =
          let tick : x ≡ choice.Tick = is ∙ ap (λ (p : Option ℕ). choice_of luck p (last_heard name seen)) e in
          let none : is_none (next_for (letters_of_records knew) name (cursor (place_of_name name) three)) ≡ true =
          ap (λ (k : ℕ). is_none (next_for (letters_of_records knew) name k)) same_cursor
          ∙ ap is_none (ahead_fewer knew (knew_in.0 ++ from_two) name (cursor name seen)
          (ap (λ (rs : List Record). next_for (letters_of_records rs) name (cursor name seen)) (sym in_two) ∙ e))
          in
          subst (λ (y : Choice). is_turn_of (threadless_plan_of_terms (terms_of plan)) three knew (node_by plan three name) name caller (act_of y) (lost_in y)
          ≡ true) (sym tick) (and_from _ _ nobody none)
      by_ahead (Some n) e x is =
          let its : x ≡ choice_of luck (Some n) (last_heard name seen) = is ∙ ap (λ (p : Option ℕ). choice_of luck p (last_heard name seen)) e in
          let high = (next_letter_was_sent two name (cursor name seen) n e).1 in
          by_choice n e (omega arith) x its (ap is_tick its ∙ never_ticks _ _ n (last_heard name seen))

-- ---- whatever was found

far_of : (name : ℕ) (before after : List Record) → name < 16 → GoesOn (Place name ∷ []) before after
    → All (λ r. place_of_name r.event.node ≢ place_of_name name) (drop (length before) after)
far_of name before after low goes = λ k d h.
    let more : List Record = drop (length before) after in
    let none = later_records_lack_key (Place name) before more (ap (of_key (Place name)) (sym (log_is_start_and_rest after before goes.begins))
    ∙ goes.own (Place name) (own_key_times_positive (Place name))) in
    unequal_test_means_different (place_of_name (get_or more k d).event.node) (place_of_name name)
    (ap (λ (p : ℕ). place_of_name (get_or more k d).event.node == p) (let s : place_of_name name ≡ name = omega arith in s) ∙ none k d h)

through : (name : ℕ) (a b c : List Record) → GoesOn (Place name ∷ []) a b → GoesOn (Place name ∷ []) b c → GoesOn (Place name ∷ []) a c
through name a b c p q = records_go_on_through_both (Place name ∷ []) (Place name ∷ []) a b c (λ key h. h) p q

turn_found : (plan : RacePlan) (luck : Luck) (name caller call : ℕ) (seen last three : List Record) (a : Act) (lost : ℕ) → name < 16
    → EachComesNext (IsLawfulRecord (terms_of plan)) three
    → GoesBeyondWhatWasSeen seen three name caller → GoesOn (Place name ∷ []) seen last → GoesOn (Place name ∷ []) last three
    → luck ≡ caller_luck_after plan caller (words_drawn caller seen)
    → is_ready (node_by plan seen name) (own_of (of_call caller call seen)) ≡ false → Found plan luck name seen last a lost
    → is_turn (threadless_plan_of_terms (terms_of plan)) three (turn_event_at name a) (turn_by caller call lost) ≡ true
turn_found plan luck name caller call seen last three a lost low whole far first then_ is unready (inl gave) =
    given_turn plan name caller call seen last last three low whole far (drop (length seen) last) (drop (length last) three) (log_is_start_and_rest last seen first.begins)
    (log_is_start_and_rest three last then_.begins)
    (drop (length last) three) (log_is_start_and_rest three last then_.begins) (drop (length seen) last) (log_is_start_and_rest last seen first.begins)
    (far_of name last three low then_) unready a lost gave
turn_found plan luck name caller call seen last three a lost low whole far first then_ is unready (inr chose) =
    let one : List Record = chose.one in
    let two : List Record = chose.picked.two in
    let to_one : GoesOn (Place name ∷ []) one three = through name one last three (through name one two last chose.picked.first chose.picked.then_) then_ in
    let to_two : GoesOn (Place name ∷ []) two three = through name two last three chose.picked.then_ then_ in
    let in_two : GoesOn (Place name ∷ []) seen two = through name seen one two chose.first chose.picked.first in
    let same : of_place name one ≡ of_place name seen = chose.first.own (Place name) (own_key_times_positive (Place name)) in
    chosen_turn plan name caller call seen one two three low whole far (drop (length seen) one) (drop (length one) three) (log_is_start_and_rest one seen chose.first.begins)
    (log_is_start_and_rest three one to_one.begins)
    (drop (length two) three) (log_is_start_and_rest three two to_two.begins) (drop (length seen) two) (log_is_start_and_rest two seen in_two.begins)
    (far_of name one three low to_one) unready a lost chose.picked.said (record {
      nobody = chose.nobody;
      is = chose.picked.is ∙ ap (λ (l : Luck). choice_of l (next_for (letters_of_records two) name (cursor name one)) (last_heard name one)) is
          ∙ ap (λ (k : ℕ). choice_of (caller_luck_after plan caller (words_drawn caller seen)) (next_for (letters_of_records two) name k) (last_heard name one))
          (ap (λ (rs : List Record). greatest_number (map passed_number rs)) same)
          ∙ ap (choice_of (caller_luck_after plan caller (words_drawn caller seen)) (next_for (letters_of_records two) name (cursor name seen)))
          (ap (λ (rs : List Record). unless_nought (greatest_number (map (λ r. packet_heard_by_act r.event.act) rs))) same);
      act_ = chose.picked.act_;
      lost_ = chose.picked.lost_;
    })

-- as a box finds it: a search, and then what the caller has seen, too
pub box_turn_is_turn : (wire : TableId) (plan : RacePlan) (name : ℕ) (pass pass' : Known) (m : Node) (reach : ℕ) (latest : Option ℕ) (stopped : Bool)
    (closed : Option WireRefusal) (b0 b1 : Boxed)
    (share share' : Known) (luck : Luck) (caller call : ℕ) (a : Act) (lost : ℕ) → record { name = name; seen = pass.seen; closed = closed } ≡ b1
    → IsBox wire plan name pass m reach latest stopped closed → BoxLooks b0 b1 → Sees pass pass' → EachComesNext (IsLawfulRecord pass.terms) pass'.seen
    → IsShareOf wire plan caller share
    → share.seen ≡ b0.seen → Sees share share' → share'.seen ≡ pass'.seen → luck ≡ caller_luck_after plan caller (words_drawn caller b0.seen)
    → is_ready (node_by plan b0.seen b0.name) (own_of (of_call caller call b0.seen)) ≡ false → Found plan luck b0.name b0.seen b1.seen a lost
    → is_turn (threadless_plan_of_terms (terms_of plan)) pass'.seen (turn_event_at b0.name a) (turn_by caller call lost) ≡ true
box_turn_is_turn wire plan name pass pass' m reach latest stopped closed b0 b1 share share' luck caller call a lost is box looks sees lawful its met shows both_
    lucky unready found =
    let three : List Record = pass'.seen in
    let n_is : name ≡ b0.name = ap (λ (b : Boxed). b.name) is ∙ looks.name in
    let s_is : pass.seen ≡ b1.seen = ap (λ (b : Boxed). b.seen) is in
    let low : b0.name < 16 = subst (λ (n : ℕ). n < 16) n_is box.place in
    let whole : EachComesNext (IsLawfulRecord (terms_of plan)) three = subst (λ (t : Terms). EachComesNext (IsLawfulRecord t) three) box.terms lawful in
    let here : GoesOn (Place name ∷ []) pass.seen three = subst (λ (ks : List SharerKey). GoesOn ks pass.seen three) box.keys sees.goes in
    let then_ : GoesOn (Place b0.name ∷ []) b1.seen three = subst (λ (n : ℕ). GoesOn (Place n ∷ []) b1.seen three) n_is
    (subst (λ (rs : List Record). GoesOn (Place name ∷ []) rs three) s_is here) in
    let told_ : GoesOn (Caller caller ∷ []) share.seen three =
    subst (GoesOn (Caller caller ∷ []) share.seen) both_ (subst (λ (ks : List SharerKey). GoesOn ks share.seen share'.seen) its.keys shows.goes) in
    turn_found plan luck b0.name caller call b0.seen b1.seen three a lost low whole
    (journal_goes_beyond_seen b0.seen share.seen three b0.name caller met (through b0.name b0.seen b1.seen three looks.goes then_) told_) looks.goes then_ lucky unready found
