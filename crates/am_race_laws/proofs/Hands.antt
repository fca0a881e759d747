-- What a caller's hand is after a record, when its call is ready, and which acts it may do.
use Rattle.am_race_laws.proofs.Words.{◌≡◌, ℕ, zero, suc, ◌+◌, ◌<◌, ◌≤◌, List, [], ◌∷◌, ◌++◌, cond, max, Bool, true, false, true≢false, Option, Some, None, sym}
use Rattle.am_race_laws.proofs.Words.{refl, ap, ◌∙◌, subst, arith, nat_lt, count_by, sum_by, ◌==◌, ◌&&◌, if◌then◌else◌, not, and_parts, lt-ltb, le-leb}
use Rattle.am_race_laws.proofs.Words.{sum_by-cons, sum_by-append, none-some, TableId, Outcome, NodeEvent, place_of_name, name_of_place_and_life, Letter, Act, By, Part, Turn, Record}
use Rattle.am_race_laws.proofs.Words.{RacePlan, packet_heard_by_act, Node, World, current, IsEndOf, Choice, Luck, again, draw, after_draw, choice_of, act_of, whole_step_comes_to_end, Caller}
use Rattle.am_race_laws.proofs.Words.{WireRefusal, Known, GoesOn, has_stopped, Tag, Came, world_after, of_caller, of_call, own_of, is_turn_part, up_to_last}
use Rattle.am_race_laws.proofs.Words.{is_take, is_end_of, passed_number, letter_lost_by_part, words_drawn, later, is_waited, is_least, is_turn_of, is_turn, unless_nought}
use Rattle.am_race_laws.proofs.Words.{is_due, may_end, is_ready, is_ready_after, may_take, is_of_race, threadless_plan_of_terms, terms_of, IsHand, caller_luck_after, is_call, Steps}
use Rattle.am_race_laws.proofs.Words.{MayAct, Hears, Boxed, BoxKeepsNode, IsBox, IsShareOf, IsTimely, node_by, lost_in, turn_event_at, by_of, end_act, end_part, IsOwn, IsCame}
use Rattle.am_race_laws.proofs.Words.{luck_behind, is_asked, ToldBy, EndTells, Grown, CallerHasSeenMore, split_on_bool, append-nil}
use Rattle.am_group.specs.declared.event.Act.TheVariants as act
use Rattle.am_shared_journal_defs.specs.declared.choice.Choice.TheVariants as choice
use Rattle.am_shared_journal_defs.specs.Choices as pump
use Rattle.std.proofs.Math.Bool.{or-true}
use Rattle.am_race_laws.proofs.{Acting.told_world_is_events_run, Acting.events_of_records, Boxing.open_box_was_not_closed, Knows.lawful_journal_knows_its_world, Knows.current_name_has_first_life, Growing.growth_by_one_record, Growing.no_growth_without_own_record}
use Rattle.am_race_laws.proofs.{Requests.own_requests_once_in_runs, Requests.OwnRequestsAreOnce, Telling.ready_call_tells_its_answer, Telling.ready_take_tells_its_answer}

-- ---- words

-- where a letter was heard or lost, one word was drawn
one_word : (luck : Luck) (a : Act) (lost : ℕ) → 0 < max (packet_heard_by_act a) lost → record luck { words = after_draw luck.words } ≡ luck_behind luck a lost
one_word luck a lost some = rw (lt-ltb 0 (max (packet_heard_by_act a) lost) some) refl

luck_drawn : (luck : Luck) (ahead last : Option ℕ) → ((n : ℕ) → ahead ≡ Some n → 0 < n) → ((k : ℕ) → last ≡ Some k → 0 < k)
    → pump.luck_after luck ahead ≡ luck_behind luck (act_of (choice_of luck ahead last)) (lost_in (choice_of luck ahead last))
luck_drawn luck None last a l = refl
luck_drawn luck (Some n) last a l = by_tests (nat_lt (draw luck.words 100) luck.loss) (nat_lt (draw luck.words 100) (luck.loss + luck.repeat)) last l
  where
    by_tests : (b c : Bool) (o : Option ℕ) → ((k : ℕ) → o ≡ Some k → 0 < k)
        → record luck { words = after_draw luck.words }
        ≡ luck_behind luck (act_of (if b then choice.Lose n else if c then again n o else choice.Hear n))
        (lost_in (if b then choice.Lose n else if c then again n o else choice.Hear n))
    by_tests true c o h = one_word luck act.Tick n (let s = a n refl in omega arith)
    by_tests false true None h = one_word luck (act.Hear n) 0 (let s = a n refl in omega arith)
    by_tests false true (Some k) h = one_word luck (act.Hear k) 0 (let s = h k refl in omega arith)
    by_tests false false o h = one_word luck (act.Hear n) 0 (let s = a n refl in omega arith)

-- as a box chooses
pub luck_after_drawn_choice : (luck luck' : Luck) (ahead last : Option ℕ) (said : Choice) (a : Act) (lost : ℕ) → ((n : ℕ) → ahead ≡ Some n → 0 < n)
    → ((k : ℕ) → last ≡ Some k → 0 < k)
    → luck' ≡ pump.luck_after luck ahead → said ≡ choice_of luck ahead last → a ≡ act_of said → lost ≡ lost_in said → luck' ≡ luck_behind luck a lost
luck_after_drawn_choice luck luck' ahead last said a lost high low drew is did lost_is =
    drew ∙ luck_drawn luck ahead last high low ∙ (λ i. luck_behind luck (sym (did ∙ ap act_of is) i) (sym (lost_is ∙ ap lost_in is) i))

pub last_heard_number_is_positive : (number k : ℕ) → unless_nought number ≡ Some k → 0 < k
last_heard_number_is_positive zero k e = absurd (none-some k e)
last_heard_number_is_positive (suc n) k e = let s : suc n ≡ k = cc in omega arith

counts_word : Record → Bool
counts_word r = is_turn_part r.by.part && nat_lt 0 (passed_number r)

-- a record more of a caller
words_more : (place : ℕ) (tag : Tag) (old new : List Record) (item : Record) → CallerHasSeenMore place tag old new (item ∷ [])
    → words_drawn tag.caller new ≡ words_drawn tag.caller old + cond (counts_word item) 1 0
unfolding counts_word
words_more place tag old new item grows =
    let all : words_drawn tag.caller new ≡ count_by counts_word (of_caller tag.caller old ++ item ∷ []) = ap (count_by counts_word) grows.all in
    let both_ = sum_by-append (λ (r : Record). cond (counts_word r) 1 0) (of_caller tag.caller old) (item ∷ []) in
    let one = sum_by-cons (λ (r : Record). cond (counts_word r) 1 0) item [] in
    let z : sum_by (λ (r : Record). cond (counts_word r) 1 0) [] ≡ 0 = refl in
    omega arith

words_same : (place : ℕ) (tag : Tag) (old new : List Record) → CallerHasSeenMore place tag old new [] → words_drawn tag.caller new ≡ words_drawn tag.caller old
words_same place tag old new grows = ap (count_by (λ r. is_turn_part r.by.part && nat_lt 0 (passed_number r)))
    (grows.all ∙ append-nil (of_caller tag.caller old))

-- ---- hands

pub hand_has_its_share : (wire : TableId) (plan : RacePlan) (caller : ℕ) (share : Known) (luck : Luck) → IsHand wire plan caller share luck
    → IsShareOf wire plan caller share
hand_has_its_share wire plan caller share luck hand = record { own = hand.own; terms = hand.terms; keys = hand.keys }

-- where others added records
pub hand_stays_as_others_add : (wire : TableId) (plan : RacePlan) (caller : ℕ) (share share' : Known) (luck : Luck) → IsHand wire plan caller share luck
    → IsShareOf wire plan caller share'
    → GoesOn (Caller caller ∷ []) share.seen share'.seen → IsHand wire plan caller share' luck
hand_stays_as_others_add wire plan caller share share' luck hand its goes = record {
  own = its.own;
  terms = its.terms;
  keys = its.keys;
  luck_ = hand.luck_ ∙ ap (caller_luck_after plan caller) (sym (words_same 0 (record { caller = caller; call = 0 }) share.seen share'.seen
      (no_growth_without_own_record 0 (record { caller = caller; call = 0 }) share.seen share'.seen goes)));
}

-- after a record that isn't a turn
pub hand_stays_after_asking_record : (wire : TableId) (plan : RacePlan) (by : By) (share share' : Known) (luck : Luck) (item : Record) → IsHand wire plan by.caller share luck
    → IsShareOf wire plan by.caller share'
    → Grown by.caller share.seen share'.seen item → item.by ≡ by → is_turn_part by.part ≡ false → IsHand wire plan by.caller share' luck
unfolding counts_word
hand_stays_after_asking_record wire plan by share share' luck item hand its grown is no_turn =
    let tag : Tag = record { caller = by.caller; call = by.call } in
    let grows = growth_by_one_record (place_of_name item.event.node) tag share.seen share'.seen item grown refl (ap (λ (b : By). b.caller) is) (ap (λ (b : By). b.call) is) in
    let more = words_more (place_of_name item.event.node) tag share.seen share'.seen item grows in
    let none : ◌≡◌ {A = ℕ} (cond (counts_word item) 1 0) 0 =
    ap (λ (b : Bool). cond (b && nat_lt 0 (passed_number item)) 1 0) (ap (λ (b : By). is_turn_part b.part) is ∙ no_turn) in
    let same : words_drawn by.caller share'.seen ≡ words_drawn by.caller share.seen = omega arith in
    record { own = its.own; terms = its.terms; keys = its.keys; luck_ = hand.luck_ ∙ ap (caller_luck_after plan by.caller) (sym same) }

next_word : (plan : RacePlan) (caller count : ℕ) → record (caller_luck_after plan caller count) { words = after_draw (caller_luck_after plan caller count).words }
    ≡ caller_luck_after plan caller (suc count)
unfolding later
next_word plan caller count = refl

-- after a turn
pub hand_moves_on_after_turn : (wire : TableId) (plan : RacePlan) (by : By) (share share' : Known) (luck luck' : Luck) (a : Act) (lost : ℕ) (item : Record)
    → IsHand wire plan by.caller share luck
    → IsShareOf wire plan by.caller share' → Grown by.caller share.seen share'.seen item → item.by ≡ by → by.part ≡ Turn lost → item.event.act ≡ a
    → luck' ≡ luck_behind luck a lost
    → IsHand wire plan by.caller share' luck'
unfolding counts_word
hand_moves_on_after_turn wire plan by share share' luck luck' a lost item hand its grown is part did drew =
    let tag : Tag = record { caller = by.caller; call = by.call } in
    let grows = growth_by_one_record (place_of_name item.event.node) tag share.seen share'.seen item grown refl (ap (λ (b : By). b.caller) is) (ap (λ (b : By). b.call) is) in
    let more = words_more (place_of_name item.event.node) tag share.seen share'.seen item grows in
    let part_ : item.by.part ≡ Turn lost = ap (λ (b : By). b.part) is ∙ part in
    let counted : counts_word item ≡ nat_lt 0 (max (packet_heard_by_act a) lost) =
    ap (λ (p : Part). is_turn_part p && nat_lt 0 (max (packet_heard_by_act item.event.act) (letter_lost_by_part p))) part_ ∙ ap (λ (x : Act). nat_lt 0 (max (packet_heard_by_act x) lost)) did
    in
    record {
      own = its.own;
      terms = its.terms;
      keys = its.keys;
      luck_ = drew ∙ by_word (nat_lt 0 (max (packet_heard_by_act a) lost)) (words_drawn by.caller share'.seen)
          (more ∙ ap (λ (b : Bool). words_drawn by.caller share.seen + cond b 1 0) counted);
    }
  where
    by_word : (b : Bool) (count : ℕ) → count ≡ words_drawn by.caller share.seen + cond b 1 0
        → (if b then record luck { words = after_draw luck.words } else luck) ≡ caller_luck_after plan by.caller count
    by_word true count e =
        ap (λ (l : Luck). record l { words = after_draw l.words }) hand.luck_ ∙ next_word plan by.caller (words_drawn by.caller share.seen)
        ∙ ap (caller_luck_after plan by.caller) (let s : suc (words_drawn by.caller share.seen) ≡ count = omega arith in s)
    by_word false count e = hand.luck_ ∙ ap (caller_luck_after plan by.caller) (let s : words_drawn by.caller share.seen ≡ count = omega arith in s)

-- ---- what a node's step answers

told_by : (plan : RacePlan) (name : ℕ) (seen : List Record) (m n : Node) (what : Option NodeEvent) (outcome : Outcome) (letters : List Letter)
    → BoxKeepsNode plan name seen m → Steps what m outcome letters n
    → ToldBy what (node_by plan seen name) outcome
told_by plan name seen m n None outcome letters keeps steps = steps.1
told_by plan name seen m n (Some what) outcome letters keeps steps =
    (whole_step_comes_to_end (node_by plan seen name) m n what outcome letters keeps.end keeps.order steps.0).answer

pub act_tells_its_step : (wire : TableId) (plan : RacePlan) (name : ℕ) (pass : Known) (m n : Node) (far : ℕ) (last : Option ℕ) (stopped : Bool)
    (closed : Option WireRefusal) (b : Boxed)
    (asked what : Option NodeEvent) (outcome : Outcome) (letters : List Letter)
    → record { name = name; seen = pass.seen; closed = closed } ≡ b → IsBox wire plan name pass m far last stopped closed → b.closed ≡ None → asked ≡ what
    → Steps asked m outcome letters n → ToldBy what (node_by plan b.seen b.name) outcome
act_tells_its_step wire plan name pass m n far last stopped closed b asked what outcome letters is box open_ same steps =
    subst (λ (w : Option NodeEvent). ToldBy w (node_by plan b.seen b.name) outcome) same
    (subst (λ (x : Boxed). ToldBy asked (node_by plan x.seen x.name) outcome) is
    (told_by plan name pass.seen m n asked outcome letters (box.node (open_box_was_not_closed name pass.seen closed b is open_)) steps))

-- ---- readiness

take_ready : (all m : Node) → IsEndOf all m → may_take m ≡ is_ready all None
unfolding is_ready
take_ready all m is = ap may_take is.same

own_ready : (all m : Node) (a : Act) (came : Came) (r : Record) → IsEndOf all m → IsOwn a came r
    → is_ready_after m a came.outcome came.round ≡ is_ready all (Some r)
unfolding is_ready
own_ready all m a came r is own =
    rw (own.act_, own.outcome, own.round) (ap (λ (n : Node). is_ready_after n a came.outcome came.round) is.same)

module _ (wire : TableId) (plan : RacePlan) (name : ℕ) (pass : Known) (m : Node) (far : ℕ) (last : Option ℕ) (stopped : Bool) (closed : Option WireRefusal)
    (b : Boxed)
    (is : record { name = name; seen = pass.seen; closed = closed } ≡ b) (box : IsBox wire plan name pass m far last stopped closed) (open_ : b.closed
    ≡ None) where
  keeps : BoxKeepsNode plan name pass.seen m
  keeps = box.node (open_box_was_not_closed name pass.seen closed b is open_)

  ended : IsEndOf (node_by plan b.seen b.name) m
  ended = subst (λ (x : Boxed). IsEndOf (node_by plan x.seen x.name) m) is keeps.end

  once : OwnRequestsAreOnce (node_by plan b.seen b.name).sends
  once = subst (λ (x : Boxed). OwnRequestsAreOnce (node_by plan x.seen x.name).sends) is
      (subst (λ (w : World). OwnRequestsAreOnce (w.nodes name).sends) (sym (told_world_is_events_run (terms_of plan) pass.seen box.lawful))
      (own_requests_once_in_runs plan.founding (events_of_records pass.seen) name))

  pub receive_is_ready_by_node : (a : Act) (own : Option Record) → IsCame a None own → may_take m ≡ is_ready (node_by plan b.seen b.name) own
  receive_is_ready_by_node a own came = take_ready (node_by plan b.seen b.name) m ended ∙ ap (is_ready (node_by plan b.seen b.name)) (sym came.1)

  pub call_is_ready_by_node : (a : Act) (came : Came) (own : Option Record) → IsCame a (Some came) own
      → is_ready_after m a came.outcome came.round ≡ is_ready (node_by plan b.seen b.name) own
  call_is_ready_by_node a came own is_ = own_ready (node_by plan b.seen b.name) m a came is_.0 ended is_.2 ∙ ap (is_ready (node_by plan b.seen b.name)) (sym is_.1)

  pub ready_receive_told_at_end : (a : Act) (own : Option Record) → IsCame a None own → may_take m ≡ true → EndTells (node_by plan b.seen b.name) a None
  ready_receive_told_at_end a own came may = ready_take_tells_its_answer (node_by plan b.seen b.name) m a came.0 ended keeps.order may

  pub ready_call_told_at_end : (a : Act) (came : Came) → is_ready_after m a came.outcome came.round ≡ true → EndTells (node_by plan b.seen b.name) a (Some came)
  ready_call_told_at_end a came ready = ready_call_tells_its_answer (node_by plan b.seen b.name) m a came ended once ready

-- ---- acts that may be done

-- a turn is of a race, and gives up only who stopped
turn_may : (plan : RacePlan) (before : List Record) (name number : ℕ) (m : Node) (caller : ℕ) (a : Act) (lost : ℕ) (knew : List Record)
    → is_turn_of plan before knew m name caller a lost ≡ true
    → (is_of_race a ≡ true) × ((other : ℕ) → a ≡ act.GiveUp other → has_stopped before other ≡ true)
turn_may plan before name number m caller (act.GiveUp gone) lost knew is = (refl, λ other e. cc (stopped_by is))
  where
    stopped_by : is_turn_of plan before knew m name caller (act.GiveUp gone) lost ≡ true → has_stopped before gone ≡ true
    stopped_by t =
        let waits = (and_parts (lost == 0) (is_waited m before gone && is_least m knew gone) t).1 in
        (and_parts _ (has_stopped before gone) (and_parts (is_waited m before gone) (is_least m knew gone) waits).0).1
turn_may plan before name number m caller act.Tick lost knew is = (refl, λ other e. absurd (cc))
turn_may plan before name number m caller (act.Hear heard) lost knew is = (refl, λ other e. absurd (cc))
turn_may plan before name number m caller _ lost knew is = absurd (true≢false (sym is))

pub found_turn_may_be_done : (plan : RacePlan) (seen : List Record) (name : ℕ) (a : Act) (by : By) (heard : Option Letter) → has_stopped seen name ≡ false
    → is_turn plan seen (turn_event_at name a) by ≡ true → ((number : ℕ) → a ≡ act.Hear number → Hears seen name number heard) → MayAct seen name a heard
unfolding is_turn
found_turn_may_be_done plan seen name a by heard runs turn hears =
    let w : World = world_after plan.founding seen in
    let k : ℕ = current w (place_of_name name) in
    let its = turn_may plan seen k 0 (w.nodes k) by.caller a (letter_lost_by_part by.part) (up_to_last (place_of_name k) by.caller seen)
    (and_parts (not (is_ready (w.nodes k) (own_of (of_call by.caller by.call seen)))) _ turn).1 in
    record { race = its.0; runs = runs; hears = hears; given = its.1 }

asked_race : (a : Act) → is_asked a ≡ true → is_of_race a ≡ true
asked_race (act.Cut number keep) e = e
asked_race act.Return e = e
asked_race _ e = refl

pub asked_act_may_be_done : (seen : List Record) (name : ℕ) (a : Act) → has_stopped seen name ≡ false → is_asked a ≡ true → MayAct seen name a None
asked_act_may_be_done seen name a runs asks = record {
  race = asked_race a asks;
  runs = runs;
  hears = λ number e. absurd (true≢false (sym asks ∙ ap is_asked e));
  given = λ other e. absurd (true≢false (sym asks ∙ ap is_asked e));
}

-- an act that is no turn is timely where its call is due, if it is its end
pub asked_act_is_timely : (wire : TableId) (plan : RacePlan) (name : ℕ) (pass : Known) (m : Node) (far : ℕ) (last : Option ℕ) (stopped : Bool)
    (closed : Option WireRefusal) (b : Boxed) (a : Act) (by : By)
    → record { name = name; seen = pass.seen; closed = closed } ≡ b → IsBox wire plan name pass m far last stopped closed → is_turn_part by.part ≡ false
    → (is_end_of by.part a ≡ true → is_due plan (node_by plan b.seen b.name) (of_call by.caller by.call b.seen) ≡ true)
    → IsTimely plan b.seen (record { node = b.name; act = a }) by
unfolding may_end
asked_act_is_timely wire plan name pass m far last stopped closed b a by is box none_ due =
    let low = box.place in
    let first : name_of_place_and_life (place_of_name name) 1 ≡ name = omega arith in
    let its_name : current (world_after plan.founding pass.seen) (place_of_name name) ≡ name =
    current_name_has_first_life plan.founding pass.seen (lawful_journal_knows_its_world (terms_of plan) pass.seen box.lawful) (place_of_name name) ∙ first in
    subst (λ (x : Boxed). (is_end_of by.part a ≡ true → is_due plan (node_by plan x.seen x.name) (of_call by.caller by.call x.seen) ≡ true)
    → IsTimely plan x.seen (record { node = x.name; act = a }) by) is (λ d. record {
      turn = λ turn. absurd (true≢false (sym turn ∙ none_));
      end_ = λ end. subst (λ (k : ℕ). is_due plan (node_by plan pass.seen k) (of_call by.caller by.call pass.seen) ≡ true) (sym its_name) (d end);
    }) due

-- a turn is no end
pub turn_of_call_is_timely : (plan : RacePlan) (seen : List Record) (name name' : ℕ) (a : Act) (by : By) (tag : Tag) (lost : ℕ) → name' ≡ name → by ≡ by_of tag (Turn lost)
    → is_turn (threadless_plan_of_terms (terms_of plan)) seen (turn_event_at name a) (by_of tag (Turn lost)) ≡ true → IsTimely plan seen (record { node = name'; act = a }) by
turn_of_call_is_timely plan seen name name' a by tag lost same is turn = record {
  turn = λ _part. subst (λ (b : By). is_turn (threadless_plan_of_terms (terms_of plan)) seen (turn_event_at name' a) b ≡ true) (sym is)
      (subst (λ (n : ℕ). is_turn (threadless_plan_of_terms (terms_of plan)) seen (turn_event_at n a) (by_of tag (Turn lost)) ≡ true) (sym same) turn);
  end_ = λ end. absurd (true≢false (sym end ∙ ap (λ (b : By). is_end_of b.part a) is));
}

-- a call is due where it is ready, or where its turns are used
pub ready_call_is_due : (plan : RacePlan) (m : Node) (mine : List Record) → is_ready m (own_of mine) ≡ true → is_due plan m mine ≡ true
ready_call_is_due plan m mine is = rw is refl

pub used_up_call_is_due : (plan : RacePlan) (m : Node) (mine : List Record) → plan.turns ≤ count_by (λ r. is_turn_part r.by.part) mine → is_due plan m mine ≡ true
used_up_call_is_due plan m mine used =
    rw (le-leb plan.turns (count_by (λ r. is_turn_part r.by.part) mine) used) (or-true (is_ready m (own_of mine)))

pub call_is_asked_act : (a : Act) → is_call a ≡ true → is_asked a ≡ true
call_is_asked_act (act.Hear number) e = e
call_is_asked_act (act.Cut number keep) e = e
call_is_asked_act (act.GiveUp name) e = e
call_is_asked_act act.Return e = e
call_is_asked_act _ e = refl

pub call_end_is_asked_act : (a : Act) (came : Option Came) → is_asked (end_act a came) ≡ true
call_end_is_asked_act (act.Send body) None = refl
call_end_is_asked_act (act.Send body) (Some came) = refl
call_end_is_asked_act act.Join came = refl
call_end_is_asked_act act.Leave came = refl
call_end_is_asked_act (act.Reset least resilience) None = refl
call_end_is_asked_act (act.Reset least resilience) (Some came) = refl
call_end_is_asked_act _ came = refl

pub call_end_is_no_turn : (a : Act) → is_turn_part (end_part a) ≡ false
call_end_is_no_turn a = split_on_bool (is_take a) (λ t. rw t refl) (λ f. rw f refl)
