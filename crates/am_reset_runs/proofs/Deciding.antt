-- A ballot that has learned all that it needs decides a view that its members may come to, unless its View doesn't fit.
use Rattle.am_reset_runs.proofs.Words.{◌≡◌, inl, inr, ◌⊎◌, ℕ, ◌+◌, ◌-◌, ◌<◌, ◌==◌, ◌&&◌, not, nat_lt, true, false, length, refl, sym, ap, ◌∙◌, subst, arith, nat_tests, split_on_bool, eqb-true}
use Rattle.am_reset_runs.proofs.Words.{has, size, Stamp, stamp_is_less, stamps_are_equal, Log, top_of_log, image_of_log, members_of_image, Image, Node, Ballot, BallotVerdict, top, view, members, image_of_node, is_member}
use Rattle.am_reset_runs.proofs.Words.{refresh_at_end, end_refresh_rests_with_list, World, current, need_set_of, need_set_without_given_up, decide, HasNoRoom, place_of_name, life_of_name}
use Rattle.am_reset_runs.proofs.Parts.{HasLearnedAll, IsReady, TrimsTaken, HasRoomForMembers}
use Rattle.am_reset_runs.proofs.Counts.{sixteen_that_pass, selection_is_smaller}
use Rattle.am_reset_runs.proofs.Words.{Some, Rules}
use Rattle.std.proofs.lemmas.Bool.{cases_lt}
use Rattle.am_safety.proofs.Fits.{set_size_le_length}
use Rattle.am_step_laws.proofs.Trimming.Taken.{own_best_list_needs_members}
use Rattle.am_trim_laws.proofs.Bases.{follower_end_keeps_base}
use Rattle.am_ballot_laws.proofs.Fetching.{promised_leads_not}
use Rattle.std.specs.Prelude.{List, slice_index, slice_index_or}
use Rattle.std.proofs.Common.{length-append}
use Rattle.std.proofs.lemmas.Bool.{eq-eqb}
use Rattle.am_base.specs.declared.entry.Entry.TheVariants.{View}
use Rattle.am_base.specs.declared.entry.GroupView.{GroupView}
use Rattle.am_base.specs.declared.outcome.Outcome.TheVariants as said
unfoldable use Rattle.am_base.specs.Lists.{after}
use Rattle.am_base.specs.Lists.{is_blank_image, row_after_view, blank_row}
use Rattle.am_base.proofs.Places.{length-by_place}
use Rattle.am_base.proofs.Requests.{has_member_is_in_row}
use Rattle.am_base.proofs.Rows.{member_row_has_view_life, mod_sixteen_lt}
use Rattle.am_model.specs.Node.{is_sequencer}
use Rattle.am_model.specs.Ballots.{trim_to_least_taken_by, decided_view, restart_reports, verdict_ending, ballot_with_end}
use Rattle.am_model.proofs.Sets.{set_with_name_has_size, passing_name_is_in_those}
use Rattle.am_step_laws.specs.Looks.{decided_view_node}
use Rattle.am_step_laws.proofs.Ballots.{image_after_view_names_it}
use Rattle.am_step_laws.proofs.Resets.{stamp_eq_of_itself}
use Rattle.am_step_laws.proofs.Rests.{RestsWithWholeList}
use Rattle.am_step_laws.proofs.Says.{image_of_pushed_entry}
use Rattle.am_step_laws.proofs.Stamps.{stamp_not_below_itself}
use Rattle.am_ballot_laws.proofs.Ending.{learned_ballots_decide}
use Rattle.am_fetch_runs.specs.Gathering.{MayGather}
use Rattle.am_repair_fetches.specs.Rest.{IsDecidedAnew}

-- ---- a View in a list

sixteen_rows_after_view : (image : Image) (n : ℕ) (g : GroupView) → length (after image n (View g)).rows ≡ 16
unfolding after
sixteen_rows_after_view image n g = length-by_place (λ place. row_after_view (is_blank_image image) n (slice_index g.members place) (slice_index_or image.rows place blank_row))

-- who is a member after a View is in it
member_after_view_is_in_it : (image : Image) (n : ℕ) (g : GroupView) (name : ℕ) → 0 < n → has (members_of_image (after image n (View g))) name ≡ true → has g.members name ≡ true
member_after_view_is_in_it image n g name up there =
    let row = has_member_is_in_row (after image n (View g)) name (sixteen_rows_after_view image n g) there in
    let life = member_row_has_view_life image n g (place_of_name name) (life_of_name name) (mod_sixteen_lt name) up (omega arith) row in
    eq-eqb (slice_index g.members (place_of_name name)) (life_of_name name) life

-- ---- a look that decides

module _ (v : World) (place c : ℕ) (m : Node) (b : Ballot) (now : current v place ≡ c) (h : HasLearnedAll v c m b) where
  abbrev names : List ℕ
  names = need_set_without_given_up b (need_set_of m b)

  abbrev before : Node
  before = trim_to_least_taken_by m b names

  abbrev new : GroupView
  new = decided_view m b names

  -- the coordinator is needed, so they aren't too few
  itself_needed : has names c ≡ true
  itself_needed = passing_name_is_in_those (λ name. not (b.given_up name)) (need_set_of m b) c (ap (has (need_set_of m b)) (sym h.who) ∙ h.learned.needed) (ap not h.kept)

  enough : nat_lt (size names) b.least ≡ false
  enough = let some = set_with_name_has_size names c itself_needed in let least = h.least_ in grind (arith, nat_tests)

  -- where its View has no room, it gave up nobody
  module _ (room : HasRoomForMembers (v.nodes c)) (crowded : nat_lt (m.core.rules.window + 16 - size names) (top m + 1 - before.core.base) ≡ true) where
    full : Ballot
    full = ballot_with_end b (said.Crowded before.core.base (top m))

    unfinished : Node
    unfinished = record before { ballot = Some full }

    ends : v.nodes c ≡ refresh_at_end unfinished
    unfolding decide full unfinished
    ends = let l = h.learned in h.looked ∙ ap (λ (x : Node). refresh_at_end x) (rw (l.needed, l.all, l.own, enough, crowded) refl)

    same_members : members (v.nodes c) ≡ need_set_of m b
    unfolding unfinished
    same_members = ap (λ (x : Node). members x) ends ∙ ap (λ (l : Log). members_of_image (image_of_log l)) (end_refresh_rests_with_list unfinished).log
        ∙ sym (own_best_list_needs_members m b h.learned.own (ap b.votes h.who ∙ h.unvoted))

    none_is_given_up : (name : ℕ) → has (members (v.nodes c)) name ≡ true → b.given_up name ≡ false
    unfolding unfinished
    none_is_given_up name there = split_on_bool (b.given_up name)
        (λ t. absurd (
        let r = end_refresh_rests_with_list unfinished in
        let needed : has (need_set_of m b) name ≡ true = ap (λ set. has set name) (sym same_members) ∙ there in
        let long : length (need_set_of m b) ≡ 16 = ap (λ (set : List ℕ). length set) (sym same_members) ∙ room.sixteen in
        let fewer = selection_is_smaller (λ j. not (b.given_up j)) (need_set_of m b) name long needed (ap not t) in
        let leads : is_sequencer unfinished ≡ false = promised_leads_not unfinished h.below in
        let base : (v.nodes c).core.base ≡ before.core.base = ap (λ (x : Node). x.core.base) ends ∙ follower_end_keeps_base unfinished leads in
        let tops : top (v.nodes c) ≡ top m = ap (λ (x : Node). top x) ends ∙ ap (λ (l : Log). top_of_log l) r.log in
        let window : (v.nodes c).core.rules.window ≡ m.core.rules.window = ap (λ (x : Node). x.core.rules.window) ends ∙ ap (λ (y : Rules). y.window) r.rests.rules in
        let sizes = ap size same_members in
        let some = room.window in
        let most = set_size_le_length names in
        let length_ = sixteen_that_pass (λ j. not (b.given_up j)) (need_set_of m b) in
        let over : m.core.rules.window + 16 - size names < top m + 1 - before.core.base = grind (arith, nat_tests) in
        elim (cases_lt (v.nodes c).core.base (top (v.nodes c))) [
          | inl below ↦ (let fits = room.room below in omega arith)
          | inr above ↦ omega arith
        ]))
        (λ f. f)

    no_room_by : HasNoRoom (v.nodes c)
    unfolding full unfinished
    no_room_by = record {
      ballot = full;
      last = ap (λ (n : Node). n.ballot) ends ∙ (end_refresh_rests_with_list unfinished).rests.ballot;
      base = before.core.base;
      top_ = top m;
      answer = refl;
      all = none_is_given_up;
    }

  -- the node that decided
  abbrev ended : Node
  ended = (verdict_ending (restart_reports (decided_view_node m b)) b (said.Decided (top m + 1) names)).node

  module _ (room : nat_lt (m.core.rules.window + 16 - size names) (top m + 1 - before.core.base) ≡ false) (takes : TrimsTaken v c) where
    looked : v.nodes c ≡ refresh_at_end ended
    looked = h.looked ∙ ap (λ (d : BallotVerdict). refresh_at_end d.node) (learned_ballots_decide m b (record { learned = h.learned; enough = enough; room = room }))

    rests : RestsWithWholeList ended (v.nodes c)
    rests = subst (RestsWithWholeList ended) (sym looked) (end_refresh_rests_with_list ended)

    image_is : image_of_node (v.nodes c) ≡ after (image_of_node m) (top m + 1) (View new)
    image_is = ap (λ (l : Log). image_of_log l) rests.log ∙ image_of_pushed_entry before (View new)

    viewed : view (v.nodes c) ≡ b.stamp
    viewed = ap (λ (i : Image). i.view) image_is ∙ (image_after_view_names_it (image_of_node m) (top m + 1) new).1

    last_is : (image_of_node (v.nodes c)).view_number ≡ top (v.nodes c)
    last_is =
        let long : top ended ≡ top m + 1 = simp length-append (omega arith) in
        ap (λ (i : Image). i.view_number) image_is ∙ (image_after_view_names_it (image_of_node m) (top m + 1) new).0 ∙ sym (ap (λ (l : Log). top_of_log l) rests.log ∙ long)

    promised : (v.nodes c).core.promise ≡ b.stamp
    promised = rests.rests.promise ∙ h.promise

    member : is_member (v.nodes c).status ≡ true
    member = ap is_member rests.rests.status ∙ h.listed

    leads : is_sequencer (v.nodes c) ≡ true
    leads =
        let who = rests.rests.who ∙ h.who in
        ap (λ t. (t && stamps_are_equal (v.nodes c).core.promise (view (v.nodes c))) && ((view (v.nodes c)).by == (v.nodes c).core.who)) member
        ∙ ap (λ (u : Stamp). stamps_are_equal u (view (v.nodes c)) && ((view (v.nodes c)).by == (v.nodes c).core.who)) (promised ∙ sym viewed)
        ∙ ap (λ t. t && ((view (v.nodes c)).by == (v.nodes c).core.who)) (stamp_eq_of_itself (view (v.nodes c)))
        ∙ eq-eqb (view (v.nodes c)).by (v.nodes c).core.who (ap (λ (u : Stamp). u.by) viewed ∙ h.own ∙ sym who)

    -- a member of the View is the coordinator, or ready
    ready : (name : ℕ) → has (members (v.nodes c)) name ≡ true → IsReady v name b.stamp
    ready name there =
        let listed = member_after_view_is_in_it (image_of_node m) (top m + 1) new name (omega arith) (ap (λ (i : Image). has (members_of_image i) name) (sym image_is) ∙ there) in
        split_on_bool (name == c)
        (λ t. subst (λ i. IsReady v i b.stamp) (sym (eqb-true name c t)) (record { current_ = h.current_; member_ = member; stays = h.stays; come = h.come; promise = promised }))
        (λ f. h.ready name listed f)

    may_gather : MayGather v c
    may_gather = record {
      leads = leads;
      current_ = h.current_;
      each = λ name there. (let r = ready name there in
          record {
            current_ = r.current_;
            member_ = r.member_;
            promised = ap (λ (u : Stamp). stamp_is_less u (v.nodes name).core.promise) (viewed ∙ sym r.promise) ∙ stamp_not_below_itself (v.nodes name).core.promise;
            trimmed = takes name r.current_ r.member_ r.stays r.come;
          });
    }

    decided_anew : IsDecidedAnew v place
    decided_anew = record {
      gathers = subst (MayGather v) (sym now) may_gather;
      last = subst (λ i. (image_of_node (v.nodes i)).view_number ≡ top (v.nodes i)) (sym now) last_is;
      stays = λ name there. (ready name (subst (λ i. has (members (v.nodes i)) name ≡ true) now there)).stays;
    }

-- such a ballot decides, or there is no room
pub decided_or_no_room : (v : World) (place c : ℕ) (m : Node) (b : Ballot) → current v place ≡ c → HasLearnedAll v c m b → TrimsTaken v c → HasRoomForMembers (v.nodes c)
    → HasNoRoom (v.nodes c) ⊎ IsDecidedAnew v place
decided_or_no_room v place c m b now h takes room =
    let names_ = need_set_without_given_up b (need_set_of m b) in
    split_on_bool (nat_lt (m.core.rules.window + 16 - size names_) (top m + 1 - (trim_to_least_taken_by m b names_).core.base))
    (λ t. inl (no_room_by v place c m b now h room t))
    (λ f. inr (decided_anew v place c m b now h f takes))
