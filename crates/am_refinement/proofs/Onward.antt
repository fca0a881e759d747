-- Moves in turn, as a step makes them, keep what the group keeps.
use Rattle.am_refinement.proofs.Words.{◌≡◌, inl, inr, either, ℕ, List, true, refl, sym, ◌∙◌, subst, arith, has, IsBeginningOf, begins_through_both, Group, Move, GroupKeeps}
use Rattle.am_refinement.proofs.Words.{group_run_is_kept_lawful, MoveIsSound, Moves, none, moves, Grows, IsNoStop, KeptWhole, GroupOk}
use Rattle.am_abstract_group.specs.Group as groups
use Rattle.am_abstract_group.specs.Moves as group
use Rattle.am_refinement.proofs.{Branches.moves_keep_branches, Branches.decisions_find_all_branches, ChainNames.moves_keep_names_named, Growing.name_grows_to_itself, Growing.growing_names_grow_group}
use Rattle.am_refinement.proofs.Growing.{moves_grow_the_group}
use Rattle.am_refinement.proofs.Lawful.{moves_keep_run_lawful}
use Rattle.am_refinement.proofs.Membership.LeftOut.{left_out_names_have_stopped, group_runs_have_rounds}
use Rattle.am_refinement.proofs.Opens.{group_runs_keep_lines_open}

pub group_run_is_kept : (founders : List ℕ) (first resilience : ℕ) (s : Group) → GroupOk founders first resilience s → GroupKeeps s
group_run_is_kept founders first resilience s h = (group_run_is_kept_lawful founders first resilience s h.run).kept

pub group_run_is_whole : (founders : List ℕ) (first resilience : ℕ) (s : Group) → GroupOk founders first resilience s → KeptWhole s
group_run_is_whole founders first resilience s h = record {
  kept = group_run_is_kept founders first resilience s h;
  opens = group_runs_keep_lines_open founders first resilience s h.run;
  rounds = group_runs_have_rounds founders first resilience s h.run;
  left_out = left_out_names_have_stopped founders first resilience s h.run;
}

no_stop : {s t : Group} (move : Move s t) → MoveIsSound move → IsNoStop move
no_stop (group.stops i) ok = ok
no_stop _ ok = tt

pub group_grows_to_itself : (s : Group) → Grows s s
group_grows_to_itself s = growing_names_grow_group s s (λ i. name_grows_to_itself (s.node i)) refl refl refl refl refl refl

pub group_growth_is_transitive : (s t u : Group) → Grows s t → Grows t u → Grows s u
group_growth_is_transitive s t u g k = record {
  each = λ i. (let a = g.each i in let b = k.each i in let x = a.promise in let y = b.promise in
      record {
        list = begins_through_both a.list b.list;
        log = λ z. b.log (a.log z);
        promise = omega arith;
        stopped = λ z. b.stopped (a.stopped z);
        departed = λ z. b.departed (a.departed z);
        leaving = λ z. b.leaving (a.leaving z);
      });
  group = begins_through_both g.group k.group;
  lines = λ x d. begins_through_both (g.lines x d) (k.lines x (g.decided x d).0);
  decided = λ x d. ((k.decided x (g.decided x d).0).0, (k.decided x (g.decided x d).0).1 ∙ (g.decided x d).1);
  new = λ x d. either (k.new x d)
      (λ old. either (g.new x old)
      (λ older. inl older)
      (λ new. inr (record {
        accepted = subst (λ (c : groups.Chosen). IsBeginningOf s.group c.before) (sym (k.decided x old).1) new.accepted;
        leavers = λ i leaves in_. begins_through_both (new.leavers i leaves (subst (λ (c : groups.Chosen). has c.members i ≡ true) (k.decided x old).1 in_))
            (k.lines x old);
      })))
      (λ new. inr (record {
        accepted = begins_through_both g.group new.accepted;
        leavers = λ i leaves in_. begins_through_both (g.each i).list (new.leavers i ((g.each i).leaving leaves) in_);
      }));
  shown = λ x i list is. k.shown x i list (g.shown x i list is);
  served = λ x i is. k.served x i (g.served x i is);
}

pub record GroupRunGoesOn (founders : List ℕ) (first resilience : ℕ) (s t : Group) : Type 0 where
  pub group_ : GroupOk founders first resilience t
  pub grows : Grows s t

pub group_goes_on_by_move : (founders : List ℕ) (first resilience : ℕ) (s t : Group) → GroupOk founders first resilience s → (move : Move s t) → MoveIsSound move
    → GroupRunGoesOn founders first resilience s t
group_goes_on_by_move founders first resilience s t h move ok =
    let old = group_run_is_kept_lawful founders first resilience s h.run in
    let run = moves_keep_run_lawful founders first resilience s t h.run move (no_stop move ok) in
    let new = group_run_is_kept_lawful founders first resilience t run in
    assumption (
      run,
      moves_keep_branches s t move ok old.kept old.lawful new.kept h.branches,
      moves_keep_names_named s t move ok old.kept h.named,
      moves_grow_the_group s t move old.kept (decisions_find_all_branches s t move ok old.kept old.lawful h.branches),
    )

pub group_goes_on_by_moves : (founders : List ℕ) (first resilience : ℕ) (s t : Group) → GroupOk founders first resilience s → Moves s t → GroupRunGoesOn founders first resilience s t
group_goes_on_by_moves founders first resilience s t h none = record { group_ = h; grows = group_grows_to_itself s }
group_goes_on_by_moves founders first resilience s t h (moves {t = u} move ok rest) =
    let one = group_goes_on_by_move founders first resilience s u h move ok in
    let more = group_goes_on_by_moves founders first resilience u t one.group_ rest in
    record { group_ = more.group_; grows = group_growth_is_transitive s u t one.grows more.grows }
