-- What follows a world goes on through marks, stops and events that change no node.
use Rattle.am_lawful_runs.proofs.Words.{◌≡◌, ◌⊎◌, either, inl, inr, ℕ, ◌<◌, ◌≤◌, length, List, [], ◌++◌, Bool, true, false, Some, slice_get, refl, sym, ap}
use Rattle.am_lawful_runs.proofs.Words.{◌∙◌, subst, append-nil, arith, Rules, Letter, Record, IsBeginningOf, IsProperBeginningOf, key_of_stamp, list_begins_itself, Group, IsUp, Move}
use Rattle.am_lawful_runs.proofs.Words.{group_with_node, gives_over, stops, ViewCompletes, IsLawful, Run, more, put_at_same_or_other, put_at_other_index, Node, lowest_name_or_zero, has_departed}
use Rattle.am_lawful_runs.proofs.Words.{is_unfinished_ballot, World, is_stopped, NameStands, FrontsStand, Stands, LinesOpen, Grows, OnBranch, on_chain, left_out}
use Rattle.am_lawful_runs.proofs.Words.{BranchesAreSound, ChainNamed, NodeStandsKept, name_grows_to_itself, growing_names_grow_group, growing_node_grows_group, letters_stay_as_group_grows, group_run_is_kept, group_goes_on_by_move, group_grows_to_itself}
use Rattle.am_lawful_runs.proofs.Words.{moves_keep_lines_open, group_runs_keep_lines_open, other_nodes_keep_through_change, Following, Decided, NotedStands}
use Rattle.am_refinement.specs.Letters.{LetterStampIsBegun}
use Rattle.am_abstract_group.specs.Group as groups
use Rattle.am_lawful_runs.proofs.Shapes.{ListsAreShaped, lists_are_shaped_after_move, lists_are_shaped_after_stop}

abbrev RunFor : Rules → Group → Type 0
RunFor rules s = Run rules.founders (lowest_name_or_zero rules.founders) rules.resilience s

-- with these marks
abbrev pub group_with_complete_marks : Group → (ℕ → Bool) → Group
group_with_complete_marks s complete = record s { views = record s.views { complete = complete } }

-- what a world's nodes and letters tell of a group
pub record LettersTellGroup (v : World) (t : Group) : Type 0 where
  pub nodes : (i : ℕ) → i < 256 → has_departed (v.nodes i).status ≡ false → NodeStandsKept v t i (v.nodes i)
  pub gone : (i : ℕ) → i < 256 → has_departed (v.nodes i).status ≡ true → is_unfinished_ballot (v.nodes i).ballot ≡ false
  pub letters : (k : ℕ) (letter : Letter) → slice_get v.letters k ≡ Some letter → LetterStampIsBegun v t letter

-- marks that may be put on a group
pub record ViewsMayBeMarked (t : Group) (complete : ℕ → Bool) : Type 0 where
  pub stay : (view : ℕ) → t.views.complete view ≡ true → complete view ≡ true
  pub marks : (view : ℕ) → complete view ≡ true → (t.views.complete view ≡ true) ⊎ ViewCompletes t view
  pub lawful : IsLawful (group_with_complete_marks t complete)

-- a group that follows a world once its complete views are marked
pub record GroupMayFollowWorld (rules : Rules) (v : World) (t : Group) : Type 0 where
  pub stands : Stands v t
  pub branches : BranchesAreSound t
  pub named : ChainNamed t
  pub tells : LettersTellGroup v t
  pub shaped : ListsAreShaped t
  pub opens : LinesOpen t
  pub run : (complete : ℕ → Bool) → ViewsMayBeMarked t complete → RunFor rules (group_with_complete_marks t complete)

-- ---- marks change nothing of this

pub group_grows_by_marks : (s : Group) (complete : ℕ → Bool) → Grows s (group_with_complete_marks s complete)
group_grows_by_marks s complete = growing_names_grow_group s (group_with_complete_marks s complete) (λ i. name_grows_to_itself (s.node i)) refl refl refl refl refl refl

pub group_is_shaped_after_marks : (s : Group) (complete : ℕ → Bool) → ListsAreShaped s → ListsAreShaped (group_with_complete_marks s complete)
group_is_shaped_after_marks s complete h = record {
  lines = λ i some. (let o = h.lines i some in record { view = o.view; decided = o.decided; line = o.line });
  sets = h.sets;
  good = h.good;
}

branch_marked : (s : Group) (complete : ℕ → Bool) (i : ℕ) → OnBranch s i → OnBranch (group_with_complete_marks s complete) i
branch_marked s complete i (on_chain h) = on_chain h
branch_marked s complete i (left_out a v branch on below list good member out) = left_out a v branch on below list good member out

branches_marked : (s : Group) (complete : ℕ → Bool) → BranchesAreSound s → BranchesAreSound (group_with_complete_marks s complete)
branches_marked s complete h = record {
  branch = λ i stays. branch_marked s complete i (h.branch i stays);
  own = h.own;
  short = h.short;
}

stands_marked : (v : World) (s : Group) (complete : ℕ → Bool) → Stands v s → Stands v (group_with_complete_marks s complete)
stands_marked v s complete h =
    let noted : (k : ℕ) (d : Decided) → slice_get v.views k ≡ Some d → NotedStands v (group_with_complete_marks s complete).views d
    = λ k d at. assumption (h.views.noted k d at) in
    assumption (noted)

-- ---- while nodes and letters stay

-- a world with the same nodes, letters and group list, more records and more who have stopped
pub record NodesStayInWorld (w v : World) : Type 0 where
  pub nodes : v.nodes ≡ w.nodes
  pub letters : v.letters ≡ w.letters
  pub group : v.group ≡ w.group
  pub more : (rest : List Record) × (v.records ≡ w.records ++ rest)
  pub stopped : (j : ℕ) → is_stopped w j ≡ true → is_stopped v j ≡ true

pub nodes_stay_in_same_world : (w : World) → NodesStayInWorld w w
nodes_stay_in_same_world w = record { nodes = refl; letters = refl; group = refl; more = ([], sym (append-nil w.records)); stopped = λ j z. z }

tells_on : (w v : World) (s t : Group) → NodesStayInWorld w v → Grows s t → Stands w s → Stands v t → LettersTellGroup w s → LettersTellGroup v t
tells_on w v s t same g hs ht h = record {
  nodes = λ i few stays. (
      let node = ap (λ (f : ℕ → Node). f i) same.nodes in
      let now : NameStands v i (w.nodes i) (t.node i) = subst (λ (m : Node). NameStands v i m (t.node i)) node (ht.each i few) in
      let more : IsBeginningOf w.group v.group = subst (IsBeginningOf w.group) (sym same.group) (list_begins_itself w.group) in
      subst (NodeStandsKept v t i) (sym node) (other_nodes_keep_through_change w v s t i (w.nodes i) same.stopped g (hs.each i few) now more
      (h.nodes i few (ap (λ (m : Node). has_departed m.status) (sym node) ∙ stays))));
  gone = λ i few left. (let node = ap (λ (f : ℕ → Node). f i) same.nodes in
      ap (λ (m : Node). is_unfinished_ballot m.ballot) node ∙ h.gone i few (ap (λ (m : Node). has_departed m.status) (sym node) ∙ left));
  letters = λ k letter at. letters_stay_as_group_grows w v s t letter.to letter.packet same.more g
      (h.letters k letter (ap (λ (l : List Letter). slice_get l k) (sym same.letters) ∙ at));
}

tells_of : {rules : Rules} {w : World} {s : Group} → Following rules w s → LettersTellGroup w s
tells_of h = record { nodes = h.nodes; gone = h.gone; letters = h.letters }

-- ---- marks

pub marked_group_follows_world : (rules : Rules) (v : World) (t : Group) (complete : ℕ → Bool) → GroupMayFollowWorld rules v t → ViewsMayBeMarked t complete
    → Following rules v (group_with_complete_marks t complete)
marked_group_follows_world rules v t complete h may =
    let stands = stands_marked v t complete h.stands in
    let tells = tells_on v v t (group_with_complete_marks t complete) (nodes_stay_in_same_world v) (group_grows_by_marks t complete) h.stands stands h.tells in
    assumption (h.run complete may, branches_marked t complete h.branches, stands, tells)

-- ---- after moves: a name that nobody is gives over, so that views can be marked

abbrev nobody : ℕ
nobody = 256

abbrev pub group_with_entry_given : Group → Group
group_with_entry_given s = group_with_node s nobody (record (s.node nobody) { ballot = false })

given_same : (s : Group) (i : ℕ) → i < 256 → (group_with_entry_given s).node i ≡ s.node i
given_same s i few = put_at_other_index s.node nobody (record (s.node nobody) { ballot = false }) i (λ same. (let z : ⊥ = omega arith in z))

stands_given : (v : World) (s : Group) → Stands v s → Stands v (group_with_entry_given s)
stands_given v s h = record {
  each = λ i few. subst (NameStands v i (v.nodes i)) (sym (given_same s i few)) (h.each i few);
  fronts = λ i few stays. subst (FrontsStand (v.nodes i)) (sym (given_same s i few)) (h.fronts i few stays);
  views = h.views;
  group = h.group;
}

pub group_grows_by_given_entry : (s : Group) → Grows s (group_with_entry_given s)
group_grows_by_given_entry s = growing_node_grows_group s nobody (record (s.node nobody) { ballot = false })
    (record { list = list_begins_itself (s.node nobody).list; log = λ z. z; promise = omega arith; stopped = λ z. z; departed = λ z. z; leaving = λ z. z })

pub group_may_follow_after_given : (rules : Rules) (v : World) (s : Group) → Following rules v s → ListsAreShaped s → GroupMayFollowWorld rules v (group_with_entry_given s)
group_may_follow_after_given rules v s h shaped =
    let founders = rules.founders in
    let first = lowest_name_or_zero rules.founders in
    let move : Move s (group_with_entry_given s) = gives_over nobody in
    let on = group_goes_on_by_move founders first rules.resilience s (group_with_entry_given s) h.group move tt in
    let stands = stands_given v s h.stands in
    record {
      stands = stands;
      branches = on.group_.branches;
      named = on.group_.named;
      tells = tells_on v v s (group_with_entry_given s) (nodes_stay_in_same_world v) on.grows h.stands stands (tells_of h);
      shaped = lists_are_shaped_after_move founders first rules.resilience s (group_with_entry_given s) h.group move tt shaped;
      opens = group_runs_keep_lines_open founders first rules.resilience (group_with_entry_given s) on.group_.run;
      run = λ complete may. more h.group.run (record { moved = group_with_entry_given s; move = move; complete = complete; stay = may.stay; marks = may.marks; is = refl })
          may.lawful;
    }

-- ---- a stop

abbrev pub group_with_name_stopped : Group → ℕ → Group
group_with_name_stopped s i = group_with_node s i (record (s.node i) { stopped = true })

-- a name of it has what it had, but may have stopped
record Halts (a b : groups.ChainNode) : Type 0 where
  list : b.list ≡ a.list
  log : b.has_log ≡ a.has_log
  departed : b.departed ≡ a.departed
  promise : b.promise ≡ a.promise
  ballot : b.ballot ≡ a.ballot
  leaving : b.leaving ≡ a.leaving
  goes : b.stopped ≡ false → a.stopped ≡ false

halts : (s : Group) (i j : ℕ) → Halts (s.node j) ((group_with_name_stopped s i).node j)
halts s i j = either (put_at_same_or_other s.node i (record (s.node i) { stopped = true }) j)
    (λ c. subst (λ b. Halts (s.node j) b) (sym c.1) (subst (λ k. Halts (s.node k) (record (s.node i) { stopped = true })) (sym c.0)
    (record { list = refl; log = refl; departed = refl; promise = refl; ballot = refl; leaving = refl; goes = λ z. absurd (cc) })))
    (λ c. subst (λ b. Halts (s.node j) b) (sym c.1)
    (record { list = refl; log = refl; departed = refl; promise = refl; ballot = refl; leaving = refl; goes = λ z. z }))

branch_halted : (s : Group) (i j : ℕ) → OnBranch s j → OnBranch (group_with_name_stopped s i) j
branch_halted s i j (on_chain h) = on_chain (subst (λ l. IsBeginningOf l (s.views.line (key_of_stamp s.views.current))) (sym (halts s i j).list) h)
branch_halted s i j (left_out a v branch on below list good member out) =
    left_out a v branch on below (subst (λ l. IsBeginningOf l branch) (sym (halts s i j).list) list) good member out

branches_halted : (s : Group) (i : ℕ) → BranchesAreSound s → BranchesAreSound (group_with_name_stopped s i)
branches_halted s i h = record {
  branch = λ j stays. branch_halted s i j (h.branch j (sym (halts s i j).departed ∙ stays));
  own = λ j stays a d below begins member. h.own j (sym (halts s i j).departed ∙ stays) a d (subst (λ l. IsProperBeginningOf d l) (halts s i j).list below) begins
      member;
  short = λ c k list up ballot shown stays.
      (let a = halts s i c in
      let b = halts s i k in
      let up_ : IsUp (s.node c) = record {
        log = sym a.log ∙ up.log;
        there = record { goes = a.goes up.there.goes; stays = sym a.departed ∙ up.there.stays };
      } in
      let seen : s.shown (key_of_stamp (s.node c).promise) k ≡ Some list = ap (λ u. s.shown (key_of_stamp u) k) (sym a.promise) ∙ shown in
      let r = h.short c k list up_ (sym a.ballot ∙ ballot) seen (sym b.departed ∙ stays) in
      either r
      (λ x. inl (subst (λ l. length l ≤ length list) (sym b.list) x))
      (λ x. inr (subst (λ l. length l ≤ length ((group_with_name_stopped s i).node c).list) (sym b.list)
      (subst (λ l. length (s.node k).list ≤ length l) (sym a.list) x))));
}

pub group_grows_by_stopped_name : (s : Group) (i : ℕ) → Grows s (group_with_name_stopped s i)
group_grows_by_stopped_name s i = growing_node_grows_group s i (record (s.node i) { stopped = true })
    (record { list = list_begins_itself (s.node i).list; log = λ z. z; promise = omega arith; stopped = λ z. refl; departed = λ z. z; leaving = λ z. z })

pub group_may_follow_after_stop : (rules : Rules) (w v : World) (s : Group) (i : ℕ) → Following rules w s → ListsAreShaped s → NodesStayInWorld w v → Stands v (group_with_name_stopped s i)
    → GroupMayFollowWorld rules v (group_with_name_stopped s i)
group_may_follow_after_stop rules w v s i h shaped same stands =
    let founders = rules.founders in
    let first = lowest_name_or_zero rules.founders in
    record {
      stands = stands;
      branches = branches_halted s i h.group.branches;
      named = h.group.named;
      tells = tells_on w v s (group_with_name_stopped s i) same (group_grows_by_stopped_name s i) h.stands stands (tells_of h);
      shaped = lists_are_shaped_after_stop s i shaped;
      opens = moves_keep_lines_open s (group_with_name_stopped s i) (stops i) (group_run_is_kept founders first rules.resilience s h.group)
          (group_runs_keep_lines_open founders first rules.resilience s h.group.run);
      run = λ complete may. more h.group.run (record {
        moved = group_with_name_stopped s i;
        move = stops i;
        complete = complete;
        stay = may.stay;
        marks = may.marks;
        is = refl;
      }) may.lawful;
    }

-- ---- nothing happens

pub group_follows_world_that_stays : (rules : Rules) (w v : World) (s : Group) → Following rules w s → NodesStayInWorld w v → Stands v s → Following rules v s
group_follows_world_that_stays rules w v s h same stands =
    let tells = tells_on w v s s same (group_grows_to_itself s) h.stands stands (tells_of h) in
    record { group = h.group; stands = stands; nodes = tells.nodes; gone = tells.gone; letters = tells.letters }
