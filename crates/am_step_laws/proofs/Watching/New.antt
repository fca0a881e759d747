-- In every run a view that is decided is a new one: its View stood nowhere before.
use Rattle.am_step_laws.proofs.Trimming.Taken.{sequencer_promise_is_its_view}
use Rattle.am_step_laws.proofs.ViewChanges.{sequencer_is_member}
use Rattle.am_step_laws.proofs.Watching.WatchedWords.{view_never_falls_in_growth, member_status_has_log, stamp_eq_of_itself, stamp_eq_gives_equality, ◌≡◌, ◌⊎◌, ⊎_elim, ℕ, ◌-◌, ◌==◌, not, true, false, List, [], length, refl}
use Rattle.am_step_laws.proofs.Watching.WatchedWords.{sym, ap, ◌∙◌, subst, arith, All, nat_tests, list_any_none, All-nil, All-cons, All-append, All-weaker, All-take}
use Rattle.am_step_laws.proofs.Watching.WatchedWords.{All-drop, Stamp, Entry, View, Rules, MayFound, has, rank_of_name, stamp_is_less, stamps_are_equal, no_stamp, image_after_entries, after, Packet, Letter}
use Rattle.am_step_laws.proofs.Watching.WatchedWords.{Event, Node, view, is_member, map_with_value, founders_entry, lowest_name_or_zero, has_log_by_status, StepResult, World, start, first_node}
use Rattle.am_step_laws.proofs.Watching.WatchedWords.{world_with_step, list_after_step, run, is_view_of, split_on_bool, both_of_and, Cause, MayTellResult, leads, decided, Says, piece, result}
use Rattle.am_step_laws.proofs.Watching.WatchedWords.{LetterSays, Effect, acting_name, heard_packet_has_property, IsCause, item_of_index_has_property, EventsKeep, StepsKeepLaw, HasSameWorldParts, events_keep_by_steps, runs_keep_what_events_keep}
use Rattle.am_step_laws.proofs.Watching.WatchedWords.{stamp_of, lowest_founder_founds, actor_is_below_256, stamp_at_most_is_transitive, stamp_not_below_itself, HasSameView, LastViewStandsInLog, NodeBallotFits, ChangeKeepsListAndBallot, changes_keep_list_and_names, heard_stamps_have_names}
use Rattle.am_step_laws.proofs.Watching.WatchedWords.{said_stamp_is_promise, DecidedViewsAreNew}
use Rattle.am_packet.specs.declared.packet.Packet.TheVariants as packet
use Rattle.am_model.specs.declared.status.Status.TheVariants as status
use Rattle.am_group_defs.specs.World as runs
use Rattle.am_step_laws.proofs.Watching.Lists.{ListlessNodesHaveNoEntries, events_keep_listless_nodes_bare, start_has_bare_listless_nodes}
use Rattle.am_step_laws.proofs.Watching.Own.{StampIsBelowPromise, ViewIsKnownToName, EntryViewIsKnown, HeardViewsAreKnown, DecidedBallotIsThePromise, ViewIsOfThisNode}
use Rattle.am_step_laws.proofs.Watching.Own.{EntryViewKnownOrOwn, OwnViewsAlongStep, known_gives_known_or_own, changes_keep_own_views}

-- ---- what is so of a world

abbrev PacketKnown : (ℕ → Node) → Packet → Type 0
PacketKnown nodes (packet.Piece s v base number e) = EntryViewIsKnown nodes e
PacketKnown nodes (packet.Result s base number v) = (v.stamp.by == s) ≡ true → ViewIsKnownToName nodes v.stamp
PacketKnown nodes _ = Unit {0}

abbrev StampBelow : (ℕ → Node) → Letter → Type 0
StampBelow nodes l = StampIsBelowPromise nodes (stamp_of l.packet)

abbrev LetterKnown : (ℕ → Node) → Letter → Type 0
LetterKnown nodes l = PacketKnown nodes l.packet

abbrev ToldNode : Node → Type 0
ToldNode m = DecidedBallotIsThePromise m.core.who m.core.promise m.ballot

-- of nodes, letters and the group list
pub record OwnViewsAreKnown (nodes : ℕ → Node) (letters : List Letter) (list : List Entry) : Type 0 where
  pub promises : (name : ℕ) → StampIsBelowPromise nodes (nodes name).core.promise
  pub told : (name : ℕ) → ToldNode (nodes name)
  pub entries : (name : ℕ) → All (EntryViewIsKnown nodes) (nodes name).core.log.entries
  pub stamps : All (StampBelow nodes) letters
  pub heard : All (LetterKnown nodes) letters
  pub group : All (EntryViewIsKnown nodes) list

pub record WorldKnowsOwnViews (rules : Rules) (w : World) : Type 0 where
  pub lists : ListlessNodesHaveNoEntries rules w
  pub own : OwnViewsAreKnown w.nodes w.letters w.group
  pub open own use *

-- ---- a step of a name

module _ (nodes : ℕ → Node) (name : ℕ) (n : Node) (d : ChangeKeepsListAndBallot (nodes name) n) (rises : stamp_is_less n.core.promise (nodes name).core.promise ≡ false) where
  below_up : (v : Stamp) → StampIsBelowPromise nodes v → StampIsBelowPromise (map_with_value nodes name n) v
  below_up v h = split_on_bool (v.by == name)
      (λ t. let same : v.by ≡ name = grind (arith, nat_tests) in
      let low : stamp_is_less (nodes name).core.promise v ≡ false = subst (λ k. stamp_is_less (nodes k).core.promise v ≡ false) same h in
      rw t (stamp_at_most_is_transitive v (nodes name).core.promise n.core.promise low rises))
      (λ f. rw f h)

  known_stamp : (v : Stamp) → ViewIsKnownToName nodes v → ViewIsKnownToName (map_with_value nodes name n) v
  known_stamp v h = split_on_bool (v.by == name)
      (λ t. let same : v.by ≡ name = grind (arith, nat_tests) in
      let log : has_log_by_status (nodes name).status ≡ true = subst (λ k. has_log_by_status (nodes k).status ≡ true) same h.has_list in
      let low : stamp_is_less (view (nodes name)) v ≡ false = subst (λ k. stamp_is_less (view (nodes k)) v ≡ false) same h.low in
      record { low = rw t (stamp_at_most_is_transitive v (view (nodes name)) (view n) low (view_never_falls_in_growth (nodes name) n (d.goes log))); has_list = rw t (d.log_ log) })
      (λ f. record { low = rw f h.low; has_list = rw f h.has_list })

  known_up : (e : Entry) → EntryViewIsKnown nodes e → EntryViewIsKnown (map_with_value nodes name n) e
  known_up (View v) h = known_stamp v.stamp h
  known_up _ h = tt

  own_known : (v : Stamp) → ViewIsOfThisNode name n v → ViewIsKnownToName (map_with_value nodes name n) v
  own_known v o =
      let t : (v.by == name) ≡ true = let same = o.by in grind (arith, nat_tests) in
      record { low = rw t o.low; has_list = rw t o.has_list }

  chained_known : (e : Entry) → EntryViewKnownOrOwn nodes name n e → EntryViewIsKnown (map_with_value nodes name n) e
  chained_known (View v) h = ⊎_elim (λ (k : ViewIsKnownToName nodes v.stamp). known_stamp v.stamp k) (λ (o : ViewIsOfThisNode name n v.stamp). own_known v.stamp o) h
  chained_known _ h = tt

  packet_up : (p : Packet) → PacketKnown nodes p → PacketKnown (map_with_value nodes name n) p
  packet_up (packet.Piece s v base number e) h = known_up e h
  packet_up (packet.Result s base number v) h = λ t. known_stamp v.stamp (h t)
  packet_up _ h = tt

-- ---- what a step's letters say

-- who tells a View of its own has it, and promised nothing above
says_known : (nodes : ℕ → Node) (m x : Node) (c : Cause) (to : List ℕ) (p : Packet) → All (EntryViewIsKnown nodes) x.core.log.entries → ToldNode x
    → (MayTellResult x → x.core.promise.by ≡ x.core.who → view x ≡ x.core.promise → ViewIsKnownToName nodes x.core.promise) → Says m c x to p → PacketKnown nodes p
says_known nodes m x c to p entries told own (piece s v stored number e is may at) = item_of_index_has_property (EntryViewIsKnown nodes) x.core.log.entries at.index e entries at.there
says_known nodes m x c to p entries told own (result _ number names is viewed may) = λ t. (
    let mine : x.core.promise.by ≡ x.core.who = grind (arith, nat_tests) in
    own may mine (may_view x may told mine))
  where
    may_view : (x : Node) → MayTellResult x → ToldNode x → x.core.promise.by ≡ x.core.who → view x ≡ x.core.promise
    may_view x (leads l) told mine = sym (sequencer_promise_is_its_view x l)
    may_view x (decided b number names there answer at) told mine = at ∙ sym (told.is b number names there answer mine)
says_known nodes m x c to p entries told own _ = tt

-- who may tell has a list, also where it departs
tells_list : (n x : Node) → n ≡ record x { status = n.status } → (n.status ≡ x.status) ⊎ (n.status ≡ status.Departed) → NodeBallotFits n → MayTellResult x
    → has_log_by_status n.status ≡ true
tells_list n x is stays b (leads l) = ⊎_elim
    (λ (e : n.status ≡ x.status). ap has_log_by_status e ∙ member_status_has_log x.status (sequencer_is_member x l))
    (λ (e : n.status ≡ status.Departed). ap has_log_by_status e)
    stays
tells_list n x is stays b (decided ballot number names there answer at) = split_on_bool (has_log_by_status n.status)
    (λ t. t)
    (λ f. absurd (let none = b.none f in let same : n.ballot ≡ x.ballot = ap (λ (y : Node). y.ballot) is in cc))

-- ---- a step of a world

grown_known : (nodes : ℕ → Node) (group : List Entry) (n : Node) → All (EntryViewIsKnown nodes) group → All (EntryViewIsKnown nodes) n.core.log.entries
    → All (EntryViewIsKnown nodes) (list_after_step group n)
grown_known nodes group n h g = split_on_bool ((view n).by == n.core.who)
    (λ t. rw t (All-append (EntryViewIsKnown nodes) group _ h (All-take (EntryViewIsKnown nodes) (n.core.acc - length group) _
    (All-drop (EntryViewIsKnown nodes) (length group - n.core.log.start) n.core.log.entries g))))
    (λ f. rw f h)

pub heard_views_are_known : (rules : Rules) (w : World) (e : Event) (c : Cause) → WorldKnowsOwnViews rules w → IsCause w (acting_name w e) e.act c → HeardViewsAreKnown w.nodes c
heard_views_are_known rules w e c h cause = record {
  stamp = λ p is. heard_packet_has_property (λ (x : Packet). StampIsBelowPromise w.nodes (stamp_of x)) w e c p cause is h.stamps;
  piece = λ s v base number x is. heard_packet_has_property (PacketKnown w.nodes) w e c (packet.Piece s v base number x) cause is h.heard;
  result = λ s base number v is. heard_packet_has_property (PacketKnown w.nodes) w e c (packet.Result s base number v) cause is h.heard;
}

-- what a step comes to
record Stepped (w : World) (name : ℕ) (n : Node) : Type 0 where
  does : ChangeKeepsListAndBallot (w.nodes name) n
  balloted : NodeBallotFits n
  chain : OwnViewsAlongStep w.nodes name n

step_of : (rules : Rules) (w : World) (e : Event) (c : Cause) (s : StepResult) → IsCause w (acting_name w e) e.act c → Effect (w.nodes (acting_name w e)) c s → WorldKnowsOwnViews rules w
    → Stepped w (acting_name w e) s.node
step_of rules w e c s cause effect h =
    let name = acting_name w e in
    let m = w.nodes name in
    let few = actor_is_below_256 rules w e h.lists.base.named in
    let kept = h.lists.base.each name few in
    let names = heard_stamps_have_names rules w e c h.lists.base cause in
    let g = changes_keep_list_and_names m s.node names effect.changes kept.names kept.balloted in
    let first : OwnViewsAlongStep w.nodes name m = record {
      who = h.lists.base.named.who name;
      rises = stamp_not_below_itself m.core.promise;
      below = λ f. h.promises name;
      told = h.told name;
      entries = All-weaker (EntryViewIsKnown w.nodes) (EntryViewKnownOrOwn w.nodes name m) (known_gives_known_or_own w.nodes name m) m.core.log.entries (h.entries name);
    } in
    record {
      does = g.does;
      balloted = g.does.balloted;
      chain = changes_keep_own_views w.nodes name (heard_views_are_known rules w e c h cause) names m s.node effect.changes kept.names kept.balloted first;
    }

own_step : (rules : Rules) → StepsKeepLaw (ListlessNodesHaveNoEntries rules) (WorldKnowsOwnViews rules)
unfolding world_with_step
own_step rules w e c s cause effect lists h =
    let name = acting_name w e in
    let m = w.nodes name in
    let n = s.node in
    let x = effect.sender in
    let g = step_of rules w e c s cause effect h in
    let d = g.does in
    let a = g.chain in
    let next = map_with_value w.nodes name n in
    let up : (k : Entry) → EntryViewIsKnown w.nodes k → EntryViewIsKnown next k = known_up w.nodes name n d a.rises in
    let mine : All (EntryViewIsKnown next) n.core.log.entries = All-weaker (EntryViewKnownOrOwn w.nodes name n) (EntryViewIsKnown next)
    (chained_known w.nodes name n d a.rises) n.core.log.entries a.entries in
    let promise : StampIsBelowPromise next n.core.promise = split_on_bool (n.core.promise.by == name)
    (λ t. rw t (stamp_not_below_itself n.core.promise))
    (λ f. below_up w.nodes name n d a.rises n.core.promise (a.below f)) in
    let same : n.core ≡ x.core = ap (λ (y : Node). y.core) effect.is in
    let sender_entries : All (EntryViewIsKnown next) x.core.log.entries = subst (λ k. All (EntryViewIsKnown next) k.log.entries) same mine in
    let sender_told : ToldNode x = let e2 : n.ballot ≡ x.ballot = ap (λ (y : Node). y.ballot) effect.is in
    subst (λ b. DecidedBallotIsThePromise x.core.who x.core.promise b) e2 (subst (λ k. DecidedBallotIsThePromise k.who k.promise n.ballot) same a.told) in
    let own : MayTellResult x → x.core.promise.by ≡ x.core.who → view x ≡ x.core.promise → ViewIsKnownToName next x.core.promise = λ may by viewed.
    (let there : view n ≡ x.core.promise = ap (λ (y : Node). view y) effect.is ∙ viewed in
    own_known w.nodes name n d a.rises x.core.promise (record {
      by = by ∙ ap (λ k. k.who) (sym same) ∙ a.who;
      low = subst (λ (v : Stamp). stamp_is_less v x.core.promise ≡ false) (sym there) (stamp_not_below_itself x.core.promise);
      has_list = tells_list n x effect.is effect.stays g.balloted may;
    })) in
    record {
      lists = lists;
      own = record {
        promises = λ other. split_on_bool (other == name)
            (λ t. rw t promise)
            (λ f. rw f (below_up w.nodes name n d a.rises (w.nodes other).core.promise (h.promises other)));
        told = λ other. split_on_bool (other == name) (λ t. rw t a.told) (λ f. rw f (h.told other));
        entries = λ other. split_on_bool (other == name)
            (λ t. rw t mine)
            (λ f. rw f (All-weaker (EntryViewIsKnown w.nodes) (EntryViewIsKnown next) up (w.nodes other).core.log.entries (h.entries other)));
        stamps = All-append (StampBelow next) w.letters s.letters
            (All-weaker (StampBelow w.nodes) (StampBelow next) (λ l k. below_up w.nodes name n d a.rises (stamp_of l.packet) k) w.letters h.stamps)
            (All-weaker (LetterSays m c x) (StampBelow next) (λ l k. subst (StampIsBelowPromise next) (ap (λ y. y.promise) same
            ∙ sym (said_stamp_is_promise m x c l.to l.packet k.says)) promise) s.letters effect.letters);
        heard = All-append (LetterKnown next) w.letters s.letters
            (All-weaker (LetterKnown w.nodes) (LetterKnown next) (λ l k. packet_up w.nodes name n d a.rises l.packet k) w.letters h.heard)
            (All-weaker (LetterSays m c x) (LetterKnown next) (λ l k. says_known next m x c l.to l.packet sender_entries sender_told own k.says) s.letters
            effect.letters);
        group = grown_known next w.group n (All-weaker (EntryViewIsKnown w.nodes) (EntryViewIsKnown next) up w.group h.group) mine;
      };
    }

own_same : (rules : Rules) (w v : World) → HasSameWorldParts w v → ListlessNodesHaveNoEntries rules v → WorldKnowsOwnViews rules w → WorldKnowsOwnViews rules v
own_same rules w v same lists h = record { lists = lists; own = rw (same.nodes, same.letters, same.group) h.own }

pub events_keep_own_views_known : (rules : Rules) → EventsKeep (WorldKnowsOwnViews rules)
events_keep_own_views_known rules = events_keep_by_steps (ListlessNodesHaveNoEntries rules) (WorldKnowsOwnViews rules) (events_keep_listless_nodes_bare rules) (λ w h. h.lists) (own_step rules) (own_same rules)

-- ---- the start

none_below : (v : Stamp) → stamp_is_less v no_stamp ≡ false
none_below v = let z : rank_of_name 0 ≡ 0 = omega arith in grind (arith, nat_tests)

promise_first : (rules : Rules) → MayFound rules → (name : ℕ) → StampIsBelowPromise (first_node rules) (first_node rules name).core.promise
promise_first rules may name =
    let first = lowest_founder_founds rules may in
    split_on_bool (has rules.founders name)
    (λ t. rw t (rw first.founds (stamp_not_below_itself (record { round = 1; by = lowest_name_or_zero rules.founders }))))
    (λ f. rw f (none_below (first_node rules 0).core.promise))

told_first : (rules : Rules) (name : ℕ) → ToldNode (first_node rules name)
told_first rules name = split_on_bool (has rules.founders name)
    (λ t. rw t (record { is = λ b number names there answer own. absurd (cc) }))
    (λ f. rw f (record { is = λ b number names there answer own. absurd (cc) }))

first_known : (rules : Rules) → MayFound rules → EntryViewIsKnown (first_node rules) (founders_entry rules)
unfolding image_after_entries after
first_known rules may =
    let first = lowest_founder_founds rules may in
    record {
      low = rw first.founds (stamp_not_below_itself (record { round = 1; by = lowest_name_or_zero rules.founders }));
      has_list = rw first.founds refl;
    }

entries_first : (rules : Rules) → MayFound rules → (name : ℕ) → All (EntryViewIsKnown (first_node rules)) (first_node rules name).core.log.entries
entries_first rules may name = split_on_bool (has rules.founders name)
    (λ t. rw t (All-cons (EntryViewIsKnown (first_node rules)) (founders_entry rules) [] (first_known rules may) (All-nil (EntryViewIsKnown (first_node rules)))))
    (λ f. rw f (All-nil (EntryViewIsKnown (first_node rules))))

pub start_knows_own_views : (rules : Rules) → MayFound rules → WorldKnowsOwnViews rules (start rules)
start_knows_own_views rules may = record {
  lists = start_has_bare_listless_nodes rules may;
  own = record {
    promises = promise_first rules may;
    told = told_first rules;
    entries = entries_first rules may;
    stamps = All-nil (StampBelow (first_node rules));
    heard = All-nil (LetterKnown (first_node rules));
    group = All-cons (EntryViewIsKnown (first_node rules)) (founders_entry rules) [] (first_known rules may) (All-nil (EntryViewIsKnown (first_node rules)));
  };
}

-- ---- a decided view

-- it is of the name, and above the name's view
record IsDecided (name : ℕ) (m n : Node) : Type 0 where
  by : (view n).by ≡ name
  above : stamp_is_less (view m) (view n) ≡ true

is_decided : (name : ℕ) (m n : Node) → n.core.who ≡ name → ChangeKeepsListAndBallot m n → runs.step_decides_view m n ≡ true → IsDecided name m n
is_decided name m n who d h =
    let a = both_of_and (is_member m.status) _ h in
    let b = both_of_and ((view n).by == n.core.who) (not (stamps_are_equal (view m) (view n))) a.1 in
    let g = d.goes (member_status_has_log m.status a.0) in
    let by : (view n).by ≡ n.core.who = let t = b.0 in grind (arith, nat_tests) in
    ⊎_elim
    (λ (s : HasSameView _ _). absurd (
    let e : stamps_are_equal (view m) (view n) ≡ true = ap (λ (v : Stamp). stamps_are_equal (view m) v) s.view ∙ stamp_eq_of_itself (view m) in
    let x = rw e at b.1 in cc))
    (λ (s : (stamp_is_less (view m) (view n) ≡ true) × LastViewStandsInLog n.core.log). record { by = by ∙ who; above = s.0 })
    g.view

-- no View that is known is its
other_view : (nodes : ℕ → Node) (name : ℕ) (v : Stamp) → v.by ≡ name → stamp_is_less (view (nodes name)) v ≡ true → (e : Entry) → EntryViewIsKnown nodes e
    → is_view_of v e ≡ false
other_view nodes name v by above (View w) h = split_on_bool (stamps_are_equal w.stamp v)
    (λ t.
    let same : w.stamp ≡ v = stamp_eq_gives_equality w.stamp v t in
    let low : stamp_is_less (view (nodes v.by)) v ≡ false = subst (λ (s : Stamp). stamp_is_less (view (nodes s.by)) s ≡ false) same h.low in
    let mine : stamp_is_less (view (nodes name)) v ≡ false = subst (λ k. stamp_is_less (view (nodes k)) v ≡ false) by low in
    absurd (cc))
    (λ f. f)
other_view nodes name v by above _ h = refl

pub decided_views_of_runs_are_new : DecidedViewsAreNew
decided_views_of_runs_are_new rules events e c s may runs_ cause effect decides_ =
    let w = run rules events in
    let name = acting_name w e in
    let h = runs_keep_what_events_keep (WorldKnowsOwnViews rules) (events_keep_own_views_known rules) (start rules) events (start_knows_own_views rules may) in
    let g = step_of rules w e c s cause effect h in
    let is = is_decided name (w.nodes name) s.node g.chain.who g.does decides_ in
    let v = view s.node in
    let none : (k : Entry) → EntryViewIsKnown w.nodes k → is_view_of v k ≡ false = other_view w.nodes name v is.by is.above in
    record {
      lists = λ other. list_any_none (is_view_of v) (w.nodes other).core.log.entries
          (All-weaker (EntryViewIsKnown w.nodes) (λ k. is_view_of v k ≡ false) none (w.nodes other).core.log.entries (h.entries other));
      group = list_any_none (is_view_of v) w.group (All-weaker (EntryViewIsKnown w.nodes) (λ k. is_view_of v k ≡ false) none w.group h.group);
    }
