-- Where a lawful run ends, who is a member of a running sequencer's list has promised its view, and may fetch what is missing.
use Rattle.am_fetch_runs.proofs.Words.{◌≡◌, ℕ, ◌<◌, ◌==◌, true, false, List, sym, ap, ◌∙◌, subst, arith, both_of_and, eqb-true, Rules, MayFound, has, Image, Stamp}
use Rattle.am_fetch_runs.proofs.Words.{stamp_is_less, Event, view, is_member, acts_in_its_view, World, run, is_stopped}
use Rattle.am_fetch_runs.proofs.Words.{lowest_name_or_zero, is_member_at_end, key_of_stamp, stamp_of_list, key_is_less_for_lesser_stamp, name_of_view_is_byte, stamp_eq_gives_equality, member_status_has_log}
use Rattle.am_fetch_runs.proofs.Words.{member_has_not_departed, image_of_whole_list, Group, chain_of, IsUp, Leads, GroupKeeps, Following, group_run_is_kept, LawfulUntilLastStop, lawful_is_until_last_stop}
use Rattle.am_fetch_runs.proofs.Words.{names_hold_in_runs, some_group_follows_until_last_stop, RunsInListOf, MembersHavePromised}
use Rattle.am_base.proofs.Members.{member_of_both_is_between}
use Rattle.am_step_laws.proofs.Stamps.{unordered_stamps_are_equal}
use Rattle.std.proofs.lemmas.Bool.{false_from_ne_true}
use Rattle.am_fetch_runs.proofs.Words.{refl, [], ◌∷◌}
use Rattle.am_base.specs.Lists.{members_of_image}

-- ---- a running member in the group that follows

pub running_member_is_up : (rules : Rules) (w : World) (s : Group) (i : ℕ) → Following rules w s → i < 256 → is_member (w.nodes i).status ≡ true → is_stopped w i ≡ false
    → IsUp (s.node i)
running_member_is_up rules w s i old low member runs =
    let a = old.stands.each i low in
    let here = member_has_not_departed (w.nodes i).status member in
    assumption (a.log_ ∙ member_status_has_log (w.nodes i).status member, a.stopped ∙ runs, a.departed ∙ here)

-- ---- a running sequencer in the group that follows

module _ (rules : Rules) (w : World) (s : Group) (q name : ℕ) (old : Following rules w s) (among : RunsInListOf w q name) (own : (w.nodes q).core.who ≡ q) where
  pub kept : GroupKeeps s
  kept = group_run_is_kept rules.founders (lowest_name_or_zero rules.founders) rules.resilience s old.group

  up : (i : ℕ) → i < 256 → is_member (w.nodes i).status ≡ true → is_stopped w i ≡ false → IsUp (s.node i)
  up i low member runs = running_member_is_up rules w s i old low member runs

  pub acting : (is_member (w.nodes q).status ≡ true) × ((w.nodes q).core.promise ≡ view (w.nodes q)) × ((view (w.nodes q)).by ≡ (w.nodes q).core.who)
  acting =
      let a = both_of_and (acts_in_its_view (w.nodes q)) ((view (w.nodes q)).by == (w.nodes q).core.who) among.leads in
      let b = both_of_and (is_member (w.nodes q).status) _ a.0 in
      (b.0, stamp_eq_gives_equality (w.nodes q).core.promise (view (w.nodes q)) b.1, eqb-true (view (w.nodes q)).by (w.nodes q).core.who a.1)

  pub view_of_whole_list : stamp_of_list (s.node q).list ≡ view (w.nodes q)
  unfolding stamp_of_list
  view_of_whole_list = ap (λ (i : Image). i.view) (image_of_whole_list w q (w.nodes q) (s.node q) (old.stands.each q among.small_leader))

  leads_there : Leads q (s.node q)
  leads_there =
      let a = old.stands.each q among.small_leader in
      let b = acting in
      assumption (up q among.small_leader b.0 among.leader_runs, a.promise ∙ b.1 ∙ sym view_of_whole_list, ap (λ (u : Stamp). u.by) view_of_whole_list ∙ b.2 ∙ own)

  -- its list is the chain, which ends in the current view
  pub leader_has_chain : (s.node q).list ≡ chain_of s.views
  leader_has_chain = ((kept.each q).leads leads_there).chain

  pub current_is_its_view : s.views.current ≡ view (w.nodes q)
  current_is_its_view = sym kept.views.view ∙ ap stamp_of_list (sym leader_has_chain) ∙ view_of_whole_list

  pub up_there : IsUp (s.node name)
  up_there = up name among.small among.member_ among.runs

  -- the name is a member at the chain's end
  pub member_of_chain : is_member_at_end (chain_of s.views) name ≡ true
  unfolding is_member_at_end
  member_of_chain =
      let tells = image_of_whole_list w q (w.nodes q) (s.node q) (old.stands.each q among.small_leader) in
      subst (λ l. is_member_at_end l name ≡ true) leader_has_chain (ap (λ (i : Image). has (members_of_image i) name) tells ∙ among.listed)

  -- it has promised no less: else it would have left the chain
  pub no_lesser_key : key_of_stamp (s.node name).promise < key_of_stamp s.views.current → ⊥
  no_lesser_key lesser =
      let left = (kept.each name).late up_there lesser in
      let stands = left.lines (key_of_stamp s.views.current) kept.views.now (omega arith) in
      let still = member_of_both_is_between name kept.views.good (record { rest = left.last ∷ []; same = refl }) stands left.member member_of_chain in
      let ended = left.ended in
      cc

  small_view : (view (w.nodes q)).by < 256
  small_view = subst (λ (u : Stamp). u.by < 256) (kept.views.view ∙ current_is_its_view) (name_of_view_is_byte (chain_of s.views) kept.views.good)

  small_promise : (w.nodes name).core.promise.by < 256
  small_promise = subst (λ (u : Stamp). u.by < 256) (old.stands.each name among.small).promise (kept.each name).small

  pub promised_no_less : stamp_is_less (w.nodes name).core.promise (view (w.nodes q)) ≡ false
  promised_no_less =
      false_from_ne_true (stamp_is_less (w.nodes name).core.promise (view (w.nodes q))) (λ (t : stamp_is_less (w.nodes name).core.promise (view (w.nodes q)) ≡ true).
      let less = key_is_less_for_lesser_stamp (w.nodes name).core.promise (view (w.nodes q)) small_promise small_view t in
      let mine = ap key_of_stamp (old.stands.each name among.small).promise in
      let its = ap key_of_stamp current_is_its_view in
      no_lesser_key (omega arith))

  -- so who has promised no more has promised just that
  pub promised_is_view : stamp_is_less (view (w.nodes q)) (w.nodes name).core.promise ≡ false → (w.nodes name).core.promise ≡ view (w.nodes q)
  promised_is_view no_more = unordered_stamps_are_equal (w.nodes name).core.promise (view (w.nodes q)) small_promise small_view promised_no_less no_more

-- ---- in every lawful run, and after it while nobody stops

pub members_have_promised_until_last_stop : (rules : Rules) (events : List Event) (q name : ℕ) → MayFound rules → LawfulUntilLastStop rules events → RunsInListOf (run rules events) q name
    → stamp_is_less ((run rules events).nodes name).core.promise (view ((run rules events).nodes q)) ≡ false
members_have_promised_until_last_stop rules events q name may until among =
    let h = some_group_follows_until_last_stop rules events may until in
    promised_no_less rules (run rules events) h.0 q name h.1 among ((names_hold_in_runs rules events may).who q)

pub members_have_promised : MembersHavePromised
members_have_promised rules events q name may lawful among =
    members_have_promised_until_last_stop rules events q name may (lawful_is_until_last_stop rules events lawful) among
