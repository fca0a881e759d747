-- A refresh within a step: the group accepts what it accepts, and the name learns of it; and then all is known again.
use Rattle.am_refinement.proofs.WholeSteps.StepWords.{group_after_of_low_accepted, member_has_not_departed, ◌≡◌, ℕ, ◌≤◌, max, true, false, List, [], length, refl, sym, ap, ◌∙◌, subst, arith, append-nil}
use Rattle.am_refinement.proofs.WholeSteps.StepWords.{Entry, Rules, top_of_log, IsBeginningOf, list_begins_itself, Group, chain_of, group_with_node, GroupKeeps, put_at_same_index, Node, is_member, is_sequencer}
use Rattle.am_refinement.proofs.WholeSteps.StepWords.{lowest_name_or_zero, has_departed, refresh, World, list_after_step, split_on_bool, Cause, refreshes, unchanged, changed, refresh_rests_with_list}
use Rattle.am_refinement.proofs.WholeSteps.StepWords.{stamp_of, TrimsOnlyTakenAlongStep, changes_trim_only_taken, sequencer_is_member, refresh_keeps_sent_bodies, NameStands, StandsBut, within, MayCount, SequencersWord, nothing}
use Rattle.am_refinement.proofs.WholeSteps.StepWords.{of_sequencer, ComesToBeforeEnd, AcceptsAndLearns, Grows, Moves, none, moves, Stepping, acting_name_stands, running_member_is_up, refresh_is_same_to_group, named_list_has_named_front}
use Rattle.am_refinement.proofs.WholeSteps.StepWords.{counted_names_of_named_list, accepting_is_moves, moves_are_transitive, group_is_kept_at_step, acting_name_stands_before, refresh_learns_group_front, follower_refresh_accepts_told, letters_stay_as_group_grows, sequencer_says_still, group_growth_is_transitive}
use Rattle.am_refinement.proofs.WholeSteps.StepWords.{group_goes_on_by_moves, group_grows_to_itself, refreshes_keep_the_node, node_keeps_as_others_stop}
use Rattle.am_base.specs.declared.outcome.Outcome.TheVariants as said
use Rattle.am_abstract_group.specs.Group as groups
use Rattle.am_abstract_group.specs.Moves as group
use Rattle.am_model.specs.Node as nodes
use Rattle.am_refinement.proofs.WholeSteps.Courses.{nonmember_status_has_no_log}
use Rattle.am_refinement.proofs.WholeSteps.Worlds.{with_group_list, group_stands_with_more_accepted, with_told_and_accepted, group_stands_with_learned_fronts}
use Rattle.am_refinement.proofs.Changes.{same_node_keeps_group_standing}
use Rattle.am_refinement.proofs.WholeSteps.Worlds.{sends_once_with_same_records}

-- ---- how far a name was told, and gives out, within its step

pub record FrontsMatchTheGroup (w : World) (name : ℕ) (x : Node) (s : Group) : Type 0 where
  pub low : x.core.told ≤ length w.group
  pub heard : ℕ
  pub word : SequencersWord s name heard
  pub acc : has_departed x.status ≡ false → (s.node name).acc ≡ x.core.acc
  pub told : has_departed x.status ≡ false → x.core.told ≤ max (s.node name).told heard

pub heard_word_stays_in_growth : (s t : Group) (w : World) (name heard : ℕ) → Grows s t → SequencersWord s name heard → SequencersWord t name heard
heard_word_stays_in_growth s t w name heard g (nothing z) = nothing z
heard_word_stays_in_growth s t w name heard g (of_sequencer from v low says) =
    let up = (g.each name).promise in
    of_sequencer from v (omega arith) (sequencer_says_still w w s t g ([], sym (append-nil w.records)) from v heard says)

-- ---- the node

no_leader : (x : Node) → is_member x.status ≡ false → is_sequencer x ≡ false
no_leader x f = split_on_bool (is_sequencer x) (λ t. absurd (let z = sequencer_is_member x t in cc)) (λ g. g)

-- ---- the refresh

-- the moves to a group, and what is known of it
pub record ChangedByMoves (rules : Rules) (w : World) (name : ℕ) (c : Cause) (y : Node) (s : Group) : Type 0 where
  pub to : Group
  pub path : Moves s to
  pub grows : Grows s to
  pub goes : Stepping rules w name c y to
  pub fronts : FrontsMatchTheGroup w name y to

-- after other moves
pub moves_before_changed : {rules : Rules} {w : World} {name : ℕ} {c : Cause} {y : Node} {s t : Group} → Moves s t → Grows s t → ChangedByMoves rules w name c y t
    → ChangedByMoves rules w name c y s
moves_before_changed {s = s} {t = t} path grows h = search (
  h.to,
  moves_are_transitive path h.path,
  group_growth_is_transitive s t h.to grows h.grows,
)

-- what the refresh leads to
pub record RefreshedByMoves (rules : Rules) (w : World) (name : ℕ) (c : Cause) (x : Node) (s : Group) : Type 0 where
  pub changed : ChangedByMoves rules (with_group_list w (list_after_step w.group (refresh x))) name c (refresh x) s
  pub open changed use *
  pub nothing_heard : fronts.heard ≡ 0

module _ (rules : Rules) (w : World) (name : ℕ) (c : Cause) (x : Node) (s : Group) (h : Stepping rules w name c x s) (f : FrontsMatchTheGroup w name x s) where
  abbrev y : Node
  y = refresh x

  k : GroupKeeps s
  k = group_is_kept_at_step rules w name c x s h

  along : TrimsOnlyTakenAlongStep rules y
  along = changes_trim_only_taken rules {o = said.Ticked} x y h.names h.used (changed {m = x} refreshes unchanged) h.along

  -- from the group that accepted, and in which the name learned
  gone_on : (g : List Entry) (t : Group) → Moves s t → IsBeginningOf w.group g → StandsBut name (within (with_group_list w g) name y) t
      → (t.node name).list ≡ (s.node name).list → y.core.acc ≤ length t.group → Stepping rules (with_group_list w g) name c y t
  gone_on g t path grows stands list low =
      let on = group_goes_on_by_moves rules.founders (lowest_name_or_zero rules.founders) rules.resilience s t h.group path in
      let v = with_group_list w g in
      let mine = acting_name_stands v name y t h.few stands in
      record {
        group = on.group_;
        stands = stands;
        by = h.by;
        who = (refresh_rests_with_list x).rests.who ∙ h.who;
        runs = h.runs;
        stopped = h.stopped;
        noted = h.noted;
        along = along;
        sent = refresh_keeps_sent_bodies w.records name x h.sent;
        once = sends_once_with_same_records w v refl h.once;
        begun = λ p is. (let b = h.begun p is in let up = (on.grows.each (stamp_of p).by).promise in let begun_ = b.begun in
            record { small = b.small; begun = omega arith });
        heard = λ p is. (let b = h.heard p is in
            search (b.to, b, letters_stay_as_group_grows w v s t b.to p ([], sym (append-nil w.records)) on.grows b.says));
        given = h.given;
        keeps = node_keeps_as_others_stop w v t name y (λ j u. u) (refreshes_keep_the_node rules w v name c x s t h on.grows on.group_ (assumption) along);
        accepted = subst (λ l. y.core.acc ≤ length l) stands.group low;
      }

  -- ---- a member

  module _ (member : is_member x.status ≡ true) (here : has_departed x.status ≡ false) where
    mine : NameStands (within w name x) name x (s.node name)
    mine = acting_name_stands_before rules w name c x s h

    counts : MayCount x (s.node name).list
    counts =
        let fronts = h.along.owned.fronts in
        assumption (
          fronts,
          fronts.given,
          fronts.accepted,
          counted_names_of_named_list (within w name x) name x (s.node name) mine
              (named_list_has_named_front (s.node name).list (chain_of s.views) ((k.each name).list (running_member_is_up w name x (s.node name) h.runs member mine)) h.group.named),
        )

    pub refreshed_group_comes_to_node : ComesToBeforeEnd w s name f.heard x
    refreshed_group_comes_to_node =
        let own = (k.each name).fronts in
        let acc_ = f.acc here in
        record {
          so = record {
            who = h.who;
            member = member;
            up_to = omega arith;
            given = omega arith;
            within = h.along.owned.fronts.accepted;
            leads = λ t. (counts, h.keeps.reports);
            follows = λ u. f.told here;
            word = f.word;
          };
          stands = mine;
          group = h.stands.group;
          runs = h.runs;
          acc = h.accepted;
        }

    learns : AcceptsAndLearns w s name y
    learns = refresh_learns_group_front w s name f.heard x k refreshed_group_comes_to_node

    abbrev after : List Entry
    after = list_after_step w.group (refresh x)

    abbrev told : ℕ
    told = max (s.node name).told (refresh x).core.told

    abbrev middle : Group
    middle = record s { group = after }

    abbrev next : Group
    next = group_with_node middle name (with_told_and_accepted (s.node name) told (refresh x).core.acc)

    path : Moves s next
    path =
        let l = learns.learns in
        let learn : group.Move middle next =
        group.learns name told (refresh x).core.acc l.up (omega arith) l.told l.before l.up_to l.given l.within in
        let more : Moves middle next = moves learn tt none in
        moves_are_transitive (accepting_is_moves w s name y h.stands.group learns.accepts) more

    stands : StandsBut name (within (with_group_list w after) name y) next
    stands = group_stands_with_more_accepted (within w name y) after name (group_with_node s name (with_told_and_accepted (s.node name) told (refresh x).core.acc)) learns.grows h.noted
        (group_stands_with_learned_fronts w name x y s told (refresh x).core.acc (refresh_is_same_to_group x) h.stands)

    is : next.node name ≡ with_told_and_accepted (s.node name) told (refresh x).core.acc
    is = put_at_same_index s.node name (with_told_and_accepted (s.node name) told (refresh x).core.acc)

    member_refreshed : RefreshedByMoves rules w name c x s
    member_refreshed =
        let l = learns.learns in
        let on = group_goes_on_by_moves rules.founders (lowest_name_or_zero rules.founders) rules.resilience s next h.group path in
        record {
          changed = record {
            to = next;
            path = path;
            grows = on.grows;
            goes = gone_on after next path learns.grows stands (ap (λ (a : groups.ChainNode). a.list) is) (omega arith);
            fronts = record {
              low = omega arith;
              heard = 0;
              word = nothing refl;
              acc = λ d. ap (λ (a : groups.ChainNode). a.acc) is;
              told = λ d. (let told_ = ap (λ (a : groups.ChainNode). a.told) is in omega arith);
            };
          };
          nothing_heard = refl;
        }

  -- ---- who is no member

  module _ (other : is_member x.status ≡ false) (low : y.core.acc ≤ length w.group) (fronts : FrontsMatchTheGroup w name y s) (none_heard : fronts.heard ≡ 0) where
    same : list_after_step w.group y ≡ w.group
    same = group_after_of_low_accepted w.group y low

    other_goes : Stepping rules (with_group_list w w.group) name c y s
    other_goes = gone_on w.group s none (list_begins_itself w.group) (same_node_keeps_group_standing w name x y s (refresh_is_same_to_group x) h.stands) refl
        (subst (λ l. y.core.acc ≤ length l) (sym h.stands.group) low)

    other_refreshed : RefreshedByMoves rules w name c x s
    other_refreshed = record {
      changed = record {
        to = s;
        path = none;
        grows = group_grows_to_itself s;
        goes = subst (λ g. Stepping rules (with_group_list w g) name c y s) (sym same) other_goes;
        fronts = record {
          low = subst (λ g. y.core.told ≤ length g) (sym same) fronts.low;
          heard = 0;
          word = nothing refl;
          acc = fronts.acc;
          told = λ d. (let told_ = fronts.told d in let none_ = none_heard in omega arith);
        };
      };
      nothing_heard = refl;
    }

-- ---- all together

pub refresh_stands_as_moves : (rules : Rules) (w : World) (name : ℕ) (c : Cause) (x : Node) (s : Group) → Stepping rules w name c x s → FrontsMatchTheGroup w name x s
    → RefreshedByMoves rules w name c x s
refresh_stands_as_moves rules w name c x s h f = split_on_bool (is_member x.status)
    (λ t. member_refreshed rules w name c x s h f t (member_has_not_departed x.status t))
    (λ m. (
    let follows = follower_refresh_accepts_told x (no_leader x m) in
    let low = f.low in
    let stays : has_departed (refresh x).status ≡ has_departed x.status = ap has_departed (refresh_rests_with_list x).rests.status in
    split_on_bool (has_departed x.status)
    (λ d. other_refreshed rules w name c x s h f m (omega arith) (record {
      low = omega arith;
      heard = 0;
      word = nothing refl;
      acc = λ u. absurd (let z = sym u ∙ stays ∙ d in cc);
      told = λ u. absurd (let z = sym u ∙ stays ∙ d in cc);
    }) refl)
    (λ d. (
    let none = h.along.blanked (nonmember_status_has_no_log x.status m d) in
    let empty : nodes.top x ≡ 0 = ap top_of_log none.blank_ in
    other_refreshed rules w name c x s h f m (omega arith) (record {
      low = omega arith;
      heard = 0;
      word = nothing refl;
      acc = λ u. (let old_ = f.acc d in omega arith);
      told = λ u. omega arith;
    }) refl))))
