-- A view is noted once, and its View stands at its number.
use Rattle.am_step_laws.proofs.Words.{number_equals_itself, member_status_has_log, stamp_eq_of_itself, both_of_and, ◌≡◌, ◌⊎◌, inl, inr, ⊎_elim, ℕ, zero, suc, ◌<◌, ◌==◌, not, Bool, true, false}
use Rattle.am_step_laws.proofs.Words.{if◌then◌else◌, List, [], ◌∷◌, ◌++◌, length, Some, slice_get, refl, sym, ap, ◌∙◌, subst, arith, All, nat_tests, All-nil}
use Rattle.am_step_laws.proofs.Words.{All-cons, All-append, All-weaker, Stamp, View, Rules, MayFound, has, stamp_is_less, stamps_are_equal, log_entry_at, image_after_entries, after, Packet, Letter}
use Rattle.am_step_laws.proofs.Words.{Event, Node, image_of_node, view, map_with_value, is_member, founder, stranger_node, lowest_name_or_zero, founders_entry, has_log_by_status, Decided, World}
use Rattle.am_step_laws.proofs.Words.{start, first_node, founders_decided, last_view_of, views_after, world_with_step, run, split_on_bool, Cause, Says, request, LetterSays}
use Rattle.am_step_laws.proofs.Words.{acting_name, heard_packet_has_property, IsCause, item_of_index_has_property, EventsKeep, StepsKeepLaw, HasSameWorldParts, events_keep_by_steps, runs_keep_what_events_keep, sender_of, stamp_of}
use Rattle.am_step_laws.proofs.Words.{RunsNoteViewsOnce, lowest_founder_founds}
use Rattle.am_group_defs.specs.World.{step_decides_view}
use Rattle.am_step_laws.proofs.ViewNames.{ViewStampHasName, NodePartsHaveNames, HeardStampsHaveNames, PieceViewHasName, served_pieces_have_names}
use Rattle.am_step_laws.proofs.{ViewChanges.NodeBallotFits, ViewChanges.ChangeKeepsListAndBallot, ViewChanges.changes_keep_list_and_names, Named.NodesHaveTheirNames, Named.events_keep_names, Named.actor_is_below_256, Named.start_has_names}
use Rattle.am_step_laws.proofs.{Stamps.stamp_at_most_is_transitive, Stamps.lower_stamp_is_not_above, Stamps.stamp_not_below_itself, ViewSteps.EntriesStayAndViewRises, ViewSteps.LastViewStandsInLog, ViewSteps.HasSameView}

-- ---- what is so of a world

-- a name's node
pub record NodeHasNamesAndBallot (m : Node) : Type 0 where
  pub names : NodePartsHaveNames m
  pub balloted : NodeBallotFits m

-- a noted view
pub record NotedViewStandsInLog (nodes : ℕ → Node) (v : Decided) : Type 0 where
  pub by : v.stamp.by < 256
  pub log_ : has_log_by_status (nodes v.stamp.by).status ≡ true
  pub low : stamp_is_less (view (nodes v.stamp.by)) v.stamp ≡ false
  pub names : List ℕ
  pub there : log_entry_at (nodes v.stamp.by).core.log v.number ≡ Some (View (record v.view { members = names }))

abbrev PieceLetter : Letter → Type 0
PieceLetter l = PieceViewHasName l.packet

abbrev StampLetter : Letter → Type 0
StampLetter l = (stamp_of l.packet).by < 256

-- of nodes, letters and noted views
pub record ViewsAreNotedOnce (nodes : ℕ → Node) (letters : List Letter) (views : List Decided) : Type 0 where
  pub each : (name : ℕ) → name < 256 → NodeHasNamesAndBallot (nodes name)
  pub pieces : All PieceLetter letters
  pub stamps : All StampLetter letters
  pub noted : All (NotedViewStandsInLog nodes) views
  pub once : (i j : ℕ) (u v : Decided) → slice_get views i ≡ Some u → slice_get views j ≡ Some v → u.stamp ≡ v.stamp → i ≡ j

pub record WorldNotesViewsOnce (rules : Rules) (w : World) : Type 0 where
  pub named : NodesHaveTheirNames rules w
  pub kept : ViewsAreNotedOnce w.nodes w.letters w.views
  pub open kept use *

-- ---- a step

pub heard_stamps_have_names : (rules : Rules) (w : World) (e : Event) (c : Cause) → WorldNotesViewsOnce rules w → IsCause w (acting_name w e) e.act c → HeardStampsHaveNames c
heard_stamps_have_names rules w e c h cause = record {
  pieces = λ p is. heard_packet_has_property PieceViewHasName w e c p cause is h.pieces;
  senders = λ p is. heard_packet_has_property (λ (x : Packet). sender_of x < 256) w e c p cause is h.named.senders;
  stamps = λ p is. heard_packet_has_property (λ (x : Packet). (stamp_of x).by < 256) w e c p cause is h.stamps;
}

-- the view doesn't fall
pub view_never_falls_in_growth : (m n : Node) → EntriesStayAndViewRises m.core.log n.core.log → stamp_is_less (view n) (view m) ≡ false
view_never_falls_in_growth m n g = ⊎_elim
    (λ (s : HasSameView (image_of_node n) (image_of_node m)). subst (λ (v : Stamp). stamp_is_less v (view m) ≡ false) (sym s.view) (stamp_not_below_itself (view m)))
    (λ (s : (stamp_is_less (view m) (view n) ≡ true) × LastViewStandsInLog n.core.log). lower_stamp_is_not_above (view m) (view n) s.0)
    g.view

-- what was noted stays noted
still_noted : (nodes : ℕ → Node) (name : ℕ) (n : Node) (v : Decided) → ChangeKeepsListAndBallot (nodes name) n → NotedViewStandsInLog nodes v → NotedViewStandsInLog (map_with_value nodes name n) v
still_noted nodes name n v d h = split_on_bool (v.stamp.by == name)
    (λ t.
    let m = nodes name in
    let same : v.stamp.by ≡ name = grind (arith, nat_tests) in
    let log_m : has_log_by_status m.status ≡ true = subst (λ k. has_log_by_status (nodes k).status ≡ true) same h.log_ in
    let low_m : stamp_is_less (view m) v.stamp ≡ false = subst (λ k. stamp_is_less (view (nodes k)) v.stamp ≡ false) same h.low in
    let there_m : log_entry_at m.core.log v.number ≡ Some (View (record v.view { members = h.names })) =
    subst (λ k. log_entry_at (nodes k).core.log v.number ≡ Some (View (record v.view { members = h.names }))) same h.there in
    let g = d.goes log_m in
    record {
      by = h.by;
      log_ = rw t (d.log_ log_m);
      low = rw t (stamp_at_most_is_transitive v.stamp (view m) (view n) low_m (view_never_falls_in_growth m n g));
      names = h.names;
      there = rw t (g.stays v.number _ there_m);
    })
    (λ f. record { by = h.by; log_ = rw f h.log_; low = rw f h.low; names = h.names; there = rw f h.there })

-- a decided view stands, and is greater
record IsNew (m n : Node) : Type 0 where
  own : (view n).by ≡ n.core.who
  log_ : has_log_by_status m.status ≡ true
  above : stamp_is_less (view m) (view n) ≡ true
  stood : LastViewStandsInLog n.core.log

is_new : (m n : Node) → ChangeKeepsListAndBallot m n → step_decides_view m n ≡ true → IsNew m n
is_new m n d h =
    let a = both_of_and (is_member m.status) _ h in
    let b = both_of_and ((view n).by == n.core.who) (not (stamps_are_equal (view m) (view n))) a.1 in
    let log_m = member_status_has_log m.status a.0 in
    let g = d.goes log_m in
    ⊎_elim
    (λ (s : HasSameView (image_of_node n) (image_of_node m)). absurd (
    let e : stamps_are_equal (view m) (view n) ≡ true = ap (λ (v : Stamp). stamps_are_equal (view m) v) s.view ∙ stamp_eq_of_itself (view m) in
    let x = rw e at b.1 in cc))
    (λ (s : (stamp_is_less (view m) (view n) ≡ true) × LastViewStandsInLog n.core.log). record { own = grind (arith, nat_tests); log_ = log_m; above = s.0; stood = s.1 })
    g.view

-- ---- indexes

at_end : {A : Type 0} (xs : List A) (y x : A) (k : ℕ) → slice_get (xs ++ y ∷ []) k ≡ Some x → (slice_get xs k ≡ Some x) ⊎ ((k ≡ length xs) × (y ≡ x))
at_end [] y x zero h = inr (refl, cc)
at_end [] y x (suc k) h = absurd (cc)
at_end (z ∷ xs) y x zero h = inl h
at_end (z ∷ xs) y x (suc k) h = ⊎_elim
    (λ (a : slice_get xs k ≡ Some x). inl a)
    (λ (a : (k ≡ length xs) × (y ≡ x)). inr (ap suc a.0, a.1))
    (at_end xs y x k h)

abbrev Once : List Decided → Type 0
Once views = (i j : ℕ) (u v : Decided) → slice_get views i ≡ Some u → slice_get views j ≡ Some v → u.stamp ≡ v.stamp → i ≡ j

-- one more, of a stamp that no other has
once_more : (views : List Decided) (new : Decided) → ((k : ℕ) (u : Decided) → slice_get views k ≡ Some u → u.stamp ≡ new.stamp → ⊥) → Once views
    → Once (views ++ new ∷ [])
once_more views new differs h i j u v a b e = ⊎_elim
    (λ (p : slice_get views i ≡ Some u). ⊎_elim
    (λ (q : slice_get views j ≡ Some v). h i j u v p q e)
    (λ (q : (j ≡ length views) × (new ≡ v)). absurd (differs i u p (e ∙ ap (λ (d : Decided). d.stamp) (sym q.1))))
    (at_end views new v j b))
    (λ (p : (i ≡ length views) × (new ≡ u)). ⊎_elim
    (λ (q : slice_get views j ≡ Some v). absurd (differs j v q (sym e ∙ ap (λ (d : Decided). d.stamp) (sym p.1))))
    (λ (q : (j ≡ length views) × (new ≡ v)). p.0 ∙ sym q.0)
    (at_end views new v j b))
    (at_end views new u i a)

-- ---- a step of a world

-- the views after a step
record Noted (nodes : ℕ → Node) (views : List Decided) : Type 0 where
  noted : All (NotedViewStandsInLog nodes) views
  once : Once views

noted_after : (nodes : ℕ → Node) (name : ℕ) (n : Node) (views : List Decided) → name < 256 → n.core.who ≡ name → ChangeKeepsListAndBallot (nodes name) n → All (NotedViewStandsInLog nodes) views
    → Once views → Noted (map_with_value nodes name n) (views_after views (nodes name) n)
noted_after nodes name n views few who d h once =
    let m = nodes name in
    let old = All-weaker (NotedViewStandsInLog nodes) (NotedViewStandsInLog (map_with_value nodes name n)) (λ v x. still_noted nodes name n v d x) views h in
    split_on_bool (step_decides_view m n)
    (λ t.
    let new = is_new m n d t in
    let by : (view n).by ≡ name = new.own ∙ who in
    let at : map_with_value nodes name n (view n).by ≡ n = ap (map_with_value nodes name n) by ∙ ap (λ (b : Bool). if b then n else nodes name) (number_equals_itself name) in
    let there : NotedViewStandsInLog (map_with_value nodes name n) (last_view_of n) = record {
      by = omega arith;
      log_ = ap (λ (x : Node). has_log_by_status x.status) at ∙ d.log_ new.log_;
      low = ap (λ (x : Node). stamp_is_less (view x) (view n)) at ∙ stamp_not_below_itself (view n);
      names = new.stood.names;
      there = ap (λ (x : Node). log_entry_at x.core.log (image_of_node n).view_number) at ∙ new.stood.there;
    } in
    let differs : (k : ℕ) (u : Decided) → slice_get views k ≡ Some u → u.stamp ≡ view n → ⊥ =
    λ k u g e. (let o = item_of_index_has_property (NotedViewStandsInLog nodes) views k u h g in
    let here : u.stamp.by ≡ name = ap (λ (s : Stamp). s.by) e ∙ by in
    let low : stamp_is_less (view m) u.stamp ≡ false = subst (λ x. stamp_is_less (view (nodes x)) u.stamp ≡ false) here o.low in
    let low_ : stamp_is_less (view m) (view n) ≡ false = subst (λ (s : Stamp). stamp_is_less (view m) s ≡ false) e low in
    cc) in
    rw t (record {
      noted = All-append (NotedViewStandsInLog (map_with_value nodes name n)) views (last_view_of n ∷ []) old
          (All-cons (NotedViewStandsInLog (map_with_value nodes name n)) (last_view_of n) [] there (All-nil _));
      once = once_more views (last_view_of n) differs once;
    }))
    (λ f. rw f (record { noted = old; once = once }))

-- the sender's parts are the node's
sender_names : (n sender : Node) → n ≡ record sender { status = n.status } → NodePartsHaveNames n → NodePartsHaveNames sender
sender_names n sender is h = let k : NodePartsHaveNames (record sender { status = n.status }) = subst NodePartsHaveNames is h in k

pub said_stamp_is_promise : (m n : Node) (c : Cause) (to : List ℕ) (p : Packet) → Says m c n to p → stamp_of p ≡ n.core.promise
said_stamp_is_promise m n c to p (request _ req body a f s) = refl
said_stamp_is_promise m n c to p _ = refl

views_step : (rules : Rules) → StepsKeepLaw (NodesHaveTheirNames rules) (WorldNotesViewsOnce rules)
unfolding world_with_step
views_step rules w e c s cause effect named h =
    let name = acting_name w e in
    let m = w.nodes name in
    let few = actor_is_below_256 rules w e h.named in
    let kept = h.each name few in
    let g = changes_keep_list_and_names m s.node (heard_stamps_have_names rules w e c h cause) effect.changes kept.names kept.balloted in
    let who : s.node.core.who ≡ name = ap (λ (b : Bool). (if b then s.node else m).core.who) (sym (number_equals_itself name)) ∙ named.who name in
    let after = noted_after w.nodes name s.node w.views few who g.does h.noted h.once in
    let sender = effect.sender in
    let names = sender_names s.node sender effect.is g.names in
    record {
      named = named;
      kept = record {
        each = λ other low. split_on_bool (other == name)
            (λ t. rw t (record { names = g.names; balloted = g.does.balloted }))
            (λ f. rw f (h.each other low));
        pieces = All-append PieceLetter w.letters s.letters h.pieces
            (All-weaker (LetterSays m c sender) PieceLetter (λ l x. served_pieces_have_names m sender c l.to l.packet names x.says) s.letters effect.letters);
        stamps = All-append StampLetter w.letters s.letters h.stamps
            (All-weaker (LetterSays m c sender) StampLetter (λ l x. subst (λ (v : Stamp). v.by < 256)
            (sym (said_stamp_is_promise m sender c l.to l.packet x.says)) names.promise_) s.letters effect.letters);
        noted = after.noted;
        once = after.once;
      };
    }

views_same : (rules : Rules) (w v : World) → HasSameWorldParts w v → NodesHaveTheirNames rules v → WorldNotesViewsOnce rules w → WorldNotesViewsOnce rules v
views_same rules w v same named h = record { named = named; kept = rw (same.nodes, same.letters, same.views) h.kept }

pub events_note_views_once : (rules : Rules) → EventsKeep (WorldNotesViewsOnce rules)
events_note_views_once rules = events_keep_by_steps (NodesHaveTheirNames rules) (WorldNotesViewsOnce rules) (events_keep_names rules) (λ w h. h.named) (views_step rules) (views_same rules)

-- ---- the start

kept_founder : (rules : Rules) (name : ℕ) → name < 256 → MayFound rules → NodeHasNamesAndBallot (founder rules name)
unfolding image_after_entries after
kept_founder rules name few may =
    let first = lowest_founder_founds rules may in
    record {
      names = record {
        who_ = few;
        promise_ = omega arith;
        entries_ = All-cons ViewStampHasName (founders_entry rules) [] (omega arith) (All-nil ViewStampHasName);
        ballot_ = tt;
      };
      balloted = record { high = stamp_not_below_itself (record { round = 1; by = lowest_name_or_zero rules.founders }); none = λ f. refl; opened = tt };
    }

kept_stranger : (rules : Rules) (name : ℕ) → name < 256 → NodeHasNamesAndBallot (stranger_node rules name)
unfolding image_after_entries
kept_stranger rules name few = record {
  names = record { who_ = few; promise_ = omega arith; entries_ = All-nil ViewStampHasName; ballot_ = tt };
  balloted = record { high = refl; none = λ f. refl; opened = tt };
}

only_one : (views : Decided) → Once (views ∷ [])
only_one d zero zero u v a b e = refl
only_one d zero (suc j) u v a b e = absurd (cc)
only_one d (suc i) zero u v a b e = absurd (cc)
only_one d (suc i) (suc j) u v a b e = absurd (cc)

founding_noted : (rules : Rules) → MayFound rules → NotedViewStandsInLog (first_node rules) (founders_decided rules)
unfolding image_after_entries after
founding_noted rules may =
    let first = lowest_founder_founds rules may in
    let low = first.few in
    record {
      by = omega arith;
      log_ = rw first.founds refl;
      low = rw first.founds (stamp_not_below_itself (record { round = 1; by = lowest_name_or_zero rules.founders }));
      names = rules.founders;
      there = rw first.founds refl;
    }

pub start_notes_views_once : (rules : Rules) → MayFound rules → WorldNotesViewsOnce rules (start rules)
start_notes_views_once rules may = record {
  named = start_has_names rules may;
  kept = record {
    each = λ name few. split_on_bool (has rules.founders name) (λ t. rw t (kept_founder rules name few may)) (λ f. rw f (kept_stranger rules name few));
    pieces = All-nil PieceLetter;
    stamps = All-nil StampLetter;
    noted = All-cons (NotedViewStandsInLog (first_node rules)) (founders_decided rules) [] (founding_noted rules may) (All-nil (NotedViewStandsInLog (first_node rules)));
    once = only_one (founders_decided rules);
  };
}

pub views_of_runs_noted_once : RunsNoteViewsOnce
views_of_runs_noted_once rules events may =
    let w = run rules events in
    let h = runs_keep_what_events_keep (WorldNotesViewsOnce rules) (events_note_views_once rules) (start rules) events (start_notes_views_once rules may) in
    record {
      once = h.once;
      stand = λ i v at. (let x = item_of_index_has_property (NotedViewStandsInLog w.nodes) w.views i v h.noted at in record { names = x.names; there = x.there });
    }
