-- Where a run that is lawful until the last stop ends, a member that may reset is a member by each list that votes more than its own.
use Rattle.am_reset_runs.proofs.Words.{◌≡◌, ℕ, ◌<◌, true, sym, ap, ◌∙◌, subst, arith, List, length, Rules, MayFound, has, Stamp, Image, members_of_image, Event, top, view, members}
use Rattle.am_reset_runs.proofs.Words.{World, run, vote_is_less, own_vote, MayVoteFor, MayReset}
use Rattle.am_reset_runs.proofs.Parts.{VotersAreSound}
use Rattle.am_fetch_runs.proofs.Words.{IsGoodList, IsBeginningOf, is_member_at_end, stamp_of_list, shorter_beginning_begins_longer, name_of_view_is_byte, lowest_name_or_zero, image_of_whole_list, length_of_whole_list}
use Rattle.am_fetch_runs.proofs.Words.{Group, chain_of, Following, GroupKeeps, IsUp, group_run_is_kept, run_trims_only_taken, names_hold_in_runs, member_has_not_departed, LawfulUntilLastStop, some_group_follows_until_last_stop}
use Rattle.am_fetch_runs.proofs.Behind.{running_member_is_up}
use Rattle.am_fetch_runs.proofs.Votes.{lesser_vote_has_shorter_list}
use Rattle.am_base.proofs.Members.{member_of_both_is_between}
use Rattle.am_refinement.specs.Standing.{NameStands}

module _ (rules : Rules) (w : World) (s : Group) (c : ℕ) (old : Following rules w s) (may : MayReset w c) where
  kept : GroupKeeps s
  kept = group_run_is_kept rules.founders (lowest_name_or_zero rules.founders) rules.resilience s old.group

  -- ---- a name that may vote

  stands : (name : ℕ) → MayVoteFor w c name → NameStands w name (w.nodes name) (s.node name)
  stands name h = old.stands.each name h.current_.small

  up : (name : ℕ) → MayVoteFor w c name → IsUp (s.node name)
  up name h = running_member_is_up rules w s name old h.current_.small h.member_ h.current_.runs

  good : (name : ℕ) → MayVoteFor w c name → IsGoodList (s.node name).list
  good name h = (old.nodes name h.current_.small (member_has_not_departed (w.nodes name).status h.member_)).good

  begins : (name : ℕ) → MayVoteFor w c name → IsBeginningOf (s.node name).list (chain_of s.views)
  begins name h = (kept.each name).list (up name h)

  viewed : (name : ℕ) → MayVoteFor w c name → stamp_of_list (s.node name).list ≡ view (w.nodes name)
  unfolding stamp_of_list
  viewed name h = ap (λ (i : Image). i.view) (image_of_whole_list w name (w.nodes name) (s.node name) (stands name h))

  long : (name : ℕ) → MayVoteFor w c name → length (s.node name).list ≡ top (w.nodes name)
  long name h = length_of_whole_list w name (w.nodes name) (s.node name) (stands name h)

  listed : (name who : ℕ) → MayVoteFor w c name → is_member_at_end (s.node name).list who ≡ has (members (w.nodes name)) who
  unfolding is_member_at_end
  listed name who h = ap (λ (i : Image). has (members_of_image i) who) (image_of_whole_list w name (w.nodes name) (s.node name) (stands name h))

  pub view_has_small_name : (name : ℕ) → MayVoteFor w c name → (view (w.nodes name)).by < 256
  view_has_small_name name h = subst (λ (u : Stamp). u.by < 256) (viewed name h) (name_of_view_is_byte (s.node name).list (good name h))

  -- ---- the member that resets

  itself_at_chain : is_member_at_end (chain_of s.views) c ≡ true
  itself_at_chain =
      let h = may.itself in
      (kept.each c).stays (up c h).there ((stands c h).leaving ∙ h.stays) (s.node c).list (begins c h) (listed c c h ∙ may.listed)

  pub member_by_better_vote : (name : ℕ) → MayVoteFor w c name → vote_is_less (own_vote (w.nodes c)) (own_vote (w.nodes name)) ≡ true → has (members (w.nodes name)) c ≡ true
  member_by_better_vote name h less =
      let own = may.itself in
      let short = lesser_vote_has_shorter_list (s.node c).list (s.node name).list (own_vote (w.nodes c)) (own_vote (w.nodes name)) (good c own) (begins c own) (begins name h)
      (view_has_small_name name h) (viewed c own) (viewed name h) (long c own) (long name h) less in
      let front = shorter_beginning_begins_longer (begins c own) (begins name h) (omega arith) in
      sym (listed name c h) ∙ member_of_both_is_between c kept.views.good front (begins name h) (listed c c own ∙ may.listed) itself_at_chain

pub voters_are_sound : (rules : Rules) (events : List Event) (c : ℕ) → MayFound rules → LawfulUntilLastStop rules events → MayReset (run rules events) c → VotersAreSound (run rules events) c
voters_are_sound rules events c may until resets =
    let w = run rules events in
    let f = some_group_follows_until_last_stop rules events may until in
    let laws = run_trims_only_taken rules events may in
    record {
      who = (names_hold_in_runs rules events may).who;
      small = λ name h. view_has_small_name rules w f.0 c f.1 resets name h;
      high = λ name h. (laws.blanks.base.each name h.current_.small).balloted.high;
      better = λ name h less. member_by_better_vote rules w f.0 c f.1 resets name h less;
    }
