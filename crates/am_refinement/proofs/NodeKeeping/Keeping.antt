-- What a node keeps besides what it shares with the group, and what is known of it within a step.
use Rattle.am_refinement.proofs.Words.{not-true, stamp_eq_gives_equality, ◌≡◌, ℕ, ◌<◌, ◌==◌, ◌||◌, not, max, true, false, List, refl, sym, ap, ◌∙◌, subst, arith, nat_tests}
use Rattle.am_refinement.proofs.Words.{Entry, View, Image, Vote, GroupView, Stamp, Outcome, Rules, IsSetOfNames, has, stamps_are_equal, members_of_image, IsGoodList, is_member_at_end, key_of_stamp, beginning_of_good_is_good}
use Rattle.am_refinement.proofs.Words.{name_of_view_is_byte, Group, IsUp, chain_of, GroupKeeps, Status, Node, Ballot, view, members, is_member, is_asking_status, is_sequencer, acts_in_its_view}
use Rattle.am_refinement.proofs.Words.{lowest_name_or_zero, has_log_by_status, has_departed, BallotVerdict, is_unfinished_ballot, member_hears_other, hears_packet_of_sequencer, World, is_stopped, split_on_bool}
use Rattle.am_refinement.proofs.Words.{both_of_and, Cause, hears, BallotIsLookedAt, LooksAtBallot, decides, with_more, without_one, as_it_is, IsNumberedBy, MayStore, MayBeWelcomed}
use Rattle.am_refinement.proofs.Words.{MayStoreFetched, MayPromise, invited, overtaken, told_result, CarriesEntry, whole_entry, by_number, Change, begins_list, looks, stores_view}
use Rattle.am_refinement.proofs.Words.{balloting_has_no_own_vote, told_image_is_used, OpenBallotIsPromised, balloting_looks_at_open_ballot, FoundBodyWasSent, found_body_was_sent, NameStands, within, WasAsked, BodiesAsked, WasBegun}
use Rattle.am_refinement.proofs.Words.{MayMove, MeetsNeedsOfNumbering, NeedsEntry, NeedsWelcome, Needs, NeedsLook, NeedsPiece, KeptWhole, BallotStands, LastStands, Stepping}
use Rattle.am_refinement.proofs.Words.{◌≤◌, take, stamp_is_less, begins_through_both, taken_front_begins_list, beginning_is_no_longer, length_of_taken_list, take_length_of_beginning, key_is_less_for_lesser_stamp, unordered_stamps_are_equal, WelcomeSays}
use Rattle.am_step_laws.specs.Changes.{numbers, stores, fetches, closes}
use Rattle.am_packet.specs.declared.packet.Packet.TheVariants as packet
use Rattle.am_run_laws.proofs.SentKept as sent
use Rattle.am_refinement.specs.Letters as says
use Rattle.am_refinement.proofs.{Changes.looked_at_ballot_is_unfinished, Changes.acting_name_stands, Changes.running_member_is_up, Changes.image_of_whole_within_step, ChainNames.named_list_has_named_front, ChainNames.named_list_members_are_set}
use Rattle.am_refinement.proofs.{Entries.sequencer_node_stands_for_sequencer, Entries.view_of_whole_list, Heard.bcast_gives_entry_needs, Heard.order_gives_entry_needs, Heard.result_gives_view_needs, Heard.numbering_gives_its_needs}
use Rattle.am_refinement.proofs.{Onward.group_run_is_kept, Onward.group_run_is_whole, Pieces.piece_gives_its_needs, Heard.own_waiting_send_fits, Shown.looked_at_votes_were_shown, Votes.BallotIsKnownToGroup}
use Rattle.am_refinement.proofs.{Votes.decided_ballot_has_its_needs, Votes.open_ballot_is_undecided}
use Rattle.am_refinement.proofs.Changes.{running_name_is_there}

-- ---- a joiner may begin where a Welcome says

-- ---- a joiner

none_of_asking : (t : Status) → is_member t ≡ false → (is_member t || is_asking_status t) ≡ true → (has_log_by_status t ≡ false) × (has_departed t ≡ false)
none_of_asking Status.Asking f h = (refl, refl)
none_of_asking _ f h = absurd (cc)

pub key_le_of_stamp_at_most : (u v : Stamp) → u.by < 256 → v.by < 256 → stamp_is_less v u ≡ false → key_of_stamp u ≤ key_of_stamp v
key_le_of_stamp_at_most u v small few low = split_on_bool (stamp_is_less u v)
    (λ t. let z = key_is_less_for_lesser_stamp u v small few t in omega arith)
    (λ f. let same = ap key_of_stamp (unordered_stamps_are_equal u v small few f low) in omega arith)

welcome_needs : (w : World) (name from base join : ℕ) (x : Node) (v : Stamp) (image : Image) (s : Group) → GroupKeeps s → x.core.who ≡ name
    → is_stopped w name ≡ false → x.core.promise.by < 256 → v.by < 256 → x.leaving ≡ false → is_unfinished_ballot x.ballot ≡ false
    → NameStands (within w name x) name x (s.node name) → MayBeWelcomed x from v base join image → WelcomeSays s from v base join image name
    → NeedsWelcome s name v base join image
welcome_needs w name from base join x v image s k who runs small few stays no_ballot old may says =
    let a = s.node name in
    let asks = both_of_and (not (from == x.core.who)) (is_member x.status || is_asking_status x.status) may.asks in
    let none = none_of_asking x.status may.no_member asks.1 in
    let ok = k.each name in
    let below = says.above in
    let low = says.accepted in
    let no_log_ : a.has_log ≡ false = old.log_ ∙ none.0 in
    record {
      may = record {
        there = running_name_is_there w name x a runs none.1 old;
        no_log = no_log_;
        staying = old.leaving ∙ stays;
        no_ballot = old.ballot ∙ no_ballot;
        decided = says.decided;
        small = few;
        other = λ same. (let other = asks.0 in
            let z : (from == x.core.who) ≡ true = grind (arith, nat_tests) in
            let y : not true ≡ true = subst (λ b. not b ≡ true) z other in
            absurd (cc));
        promise = subst (λ (u : Stamp). key_of_stamp u ≤ key_of_stamp v) (sym old.promise) (key_le_of_stamp_at_most x.core.promise v small few may.promise);
        accepted = low;
        joined = says.joined;
        above = λ l h member. (let in_base = beginning_is_no_longer h in
            let base_long = length_of_taken_list base s.group (omega arith) in
            says.first l (begins_through_both h (taken_front_begins_list base s.group)) (omega arith) member);
        below = says.above;
        later = λ y d up. (let h = says.later y d up in
            let long = length_of_taken_list join s.group low in
            let same : take join (s.views.chosen y).before ≡ take join s.group = ap (λ n. take n (s.views.chosen y).before) (sym long) ∙ take_length_of_beginning h in
            subst (λ l. is_member_at_end l name ≡ true) (sym same) says.joined);
      };
      blank = ok.blank no_log_;
      within = omega arith;
      image_ = says.image_;
    }

-- ---- a node

-- ---- within a step

module _ (rules : Rules) (w : World) (name : ℕ) (c : Cause) (x : Node) (s : Group) (h : Stepping rules w name c x s) where
  pub group_is_kept_at_step : GroupKeeps s
  group_is_kept_at_step = group_run_is_kept rules.founders (lowest_name_or_zero rules.founders) rules.resilience s h.group

  pub group_is_whole_at_step : KeptWhole s
  group_is_whole_at_step = group_run_is_whole rules.founders (lowest_name_or_zero rules.founders) rules.resilience s h.group

  pub acting_name_stands_before : NameStands (within w name x) name x (s.node name)
  acting_name_stands_before = acting_name_stands w name x s h.few h.stands

  pub acting_member_is_up : is_member x.status ≡ true → IsUp (s.node name)
  acting_member_is_up t = running_member_is_up w name x (s.node name) h.runs t acting_name_stands_before

  pub acting_member_has_good_list : is_member x.status ≡ true → IsGoodList (s.node name).list
  acting_member_has_good_list t = beginning_of_good_is_good ((group_is_kept_at_step.each name).list (acting_member_is_up t)) group_is_kept_at_step.views.good

  promise_begun : (v : Stamp) → MayPromise c x v → WasBegun s v
  promise_begun v (invited from _ is heard own) = h.begun (packet.Invite from v) is
  promise_begun v (overtaken from _ vote is heard above) = h.begun (packet.Vote from v vote) is
  promise_begun v (told_result from base number w is heard own other) = h.begun (packet.Result from base number w) is

  pub acting_name_may_move : MayMove w name c x s
  acting_name_may_move = record {
    so = record {
      few = h.few;
      who = h.who;
      promise = h.along.names.promise_;
      ballot = λ b is open_. sym ((subst (OpenBallotIsPromised x.core.who x.core.promise (view x)) is h.along.balloted.opened) open_).promised;
      stamps = promise_begun;
      gone = λ from v number is. (let k = h.heard (packet.Gone from v number) is in k.says name k.addressed);
    };
    runs = h.runs;
    noted = h.noted;
  }

  -- the ballot that is looked at
  pub looked_at_ballot_stands : (b : Ballot) → BallotIsLookedAt c x b → BallotStands w b
  looked_at_ballot_stands b (as_it_is was o on) = subst (LastStands w) o.last h.keeps.last
  looked_at_ballot_stands b (without_one was other is o apart) =
      let k = subst (LastStands w) o.last h.keeps.last in
      record {
        given = λ j. split_on_bool (j == other)
            (λ t. λ at. (let same : other ≡ j = grind (arith, nat_tests) in subst (λ z. is_stopped w z ≡ true) same (h.given other is)))
            (λ f. λ at. k.given j (rw f at at));
        names = λ j vote. split_on_bool (j == other)
            (λ t. λ at. absurd (let z = rw t at at in cc))
            (λ f. λ at. k.names j vote (rw f at at));
      }
  looked_at_ballot_stands b (with_more was from v shown is heard low high o same stays) =
      let k = subst (LastStands w) o.last h.keeps.last in
      let small = h.names.senders (packet.Vote from v shown) is in
      let named = (h.heard (packet.Vote from v shown) is).says.0 in
      record {
        given = k.given;
        names = λ j vote. split_on_bool (j == from)
            (λ t. λ at. (let its : j ≡ from = grind (arith, nat_tests) in
            let is_vote : shown ≡ vote = cc in
            (subst (λ z. z < 256) (sym its) small, subst (λ (z : Vote). z.view.by < 256) is_vote named)))
            (λ f. λ at. k.names j vote (rw f at at));
      }

  pub looked_at_ballot_is_open : (b : Ballot) → BallotIsLookedAt c x b → is_unfinished_ballot x.ballot ≡ true
  looked_at_ballot_is_open b why = looked_at_ballot_is_unfinished c x b why

  pub looked_at_ballot_is_known : (b : Ballot) → BallotIsLookedAt c x b → BallotIsKnownToGroup w name x b s
  looked_at_ballot_is_known b why =
      let open_ = looked_at_ballot_is_unfinished c x b why in
      let member = (h.keeps.opens open_).0 in
      let looked = (balloting_looks_at_open_ballot x b why h.along.balloted).open_ in
      let has_ballot = acting_name_stands_before.ballot ∙ open_ in
      let fresh = open_ballot_is_undecided s name group_is_kept_at_step (acting_member_is_up member) has_ballot in
      let same : (s.node name).promise ≡ b.stamp = acting_name_stands_before.promise ∙ looked.promised in
      let last = looked_at_ballot_stands b why in
      record {
        few = h.few;
        who = h.who;
        stands = acting_name_stands_before;
        up = acting_member_is_up member;
        ballot = has_ballot;
        stamp = sym looked.promised;
        votes = looked_at_votes_were_shown c x b s why looked.own (ap (λ (u : Stamp). s.views.decided (key_of_stamp u)) (sym same) ∙ fresh)
            (λ from v vote is. (h.heard (packet.Vote from v vote) is).says.1) h.keeps.votes;
        own = balloting_has_no_own_vote c x b why h.along.owned.vote;
        given = λ j t. (let gone = last.given j t in
            let few = h.stopped j gone in
            (h.stands.each j few).stopped ∙ gone);
        view_ = subst (λ (u : Stamp). u.by < 256) (view_of_whole_list w name x (s.node name) acting_name_stands_before) (name_of_view_is_byte (s.node name).list (acting_member_has_good_list member));
        views = λ j vote is. (last.names j vote is).1;
        names = λ j vote is. (last.names j vote is).0;
      }

  -- ---- what each change needs

  was_asked : (who req : ℕ) (body : List ℕ) → sent.WasSentByRecord w.records who req body → WasAsked w who req body
  was_asked who req body k = record { index = k.index; done = k.send; there = k.there; is = k.is }

  bodies : BodiesAsked w x
  bodies from req body is = was_asked from req body (subst (FoundBodyWasSent w.records from req) is (found_body_was_sent w.records name x from req h.sent))

  pub sequencer_is_in_its_list : is_sequencer x ≡ true → is_member_at_end (s.node name).list name ≡ true
  unfolding is_member_at_end
  sequencer_is_in_its_list t = ap (λ (i : Image). has (members_of_image i) name) (image_of_whole_within_step w name name x (s.node name) acting_name_stands_before) ∙ ap (has (members x)) (sym h.who)
      ∙ h.along.owned.leads t

  pub acting_sequencer_is_member : is_sequencer x ≡ true → is_member x.status ≡ true
  acting_sequencer_is_member t = (both_of_and (is_member x.status) (stamps_are_equal x.core.promise (view x)) (both_of_and (acts_in_its_view x) ((view x).by == x.core.who) t).0).0

  member_set : is_member x.status ≡ true → IsSetOfNames (members x)
  member_set t = subst (λ (i : Image). IsSetOfNames (members_of_image i)) (image_of_whole_within_step w name name x (s.node name) acting_name_stands_before)
      (named_list_members_are_set (s.node name).list (named_list_has_named_front (s.node name).list (chain_of s.views) ((group_is_kept_at_step.each name).list (acting_member_is_up t)) h.group.named))

  pub numbered_entry_has_its_needs : (e : Entry) → is_sequencer x ≡ true → IsNumberedBy c x e → MeetsNeedsOfNumbering s name x e
  numbered_entry_has_its_needs e t why = numbering_gives_its_needs w name c x e s group_is_kept_at_step h.who h.runs acting_name_stands_before (sequencer_node_stands_for_sequencer w name x (s.node name) h.who t acting_name_stands_before)
      (told_image_is_used x h.along.owned.fronts).places
      (own_waiting_send_fits (within w name x) name x (s.node name) acting_name_stands_before (acting_member_has_good_list (acting_sequencer_is_member t))
      (subst (λ k. is_member_at_end (s.node name).list k ≡ true) (sym h.who) (sequencer_is_in_its_list t)) h.keeps.turn)
      (λ from v report is. (h.heard (packet.LeaveAsk from v report) is).says)
      (λ from v is. h.names.senders (packet.JoinAsk from v) is) why

  store_ok : (from : ℕ) (v : Stamp) (base acc number : ℕ) (e : Entry) → CarriesEntry c x from v base acc number e → hears_packet_of_sequencer x from v ≡ true
      → MayStore x x.core.base base number e → NeedsEntry s name x e
  store_ok from v base acc number e (whole_entry _ is) heard may =
      bcast_gives_entry_needs w name from x.core.base base acc number x v e s group_is_kept_at_step h.who h.runs acting_name_stands_before heard may (h.heard (packet.Bcast from v base acc number e) is).says.1
  store_ok from v base acc number e (by_number sender req body is found) heard may =
      order_gives_entry_needs w name from x.core.base base acc number sender req x v body s group_is_kept_at_step h.who h.runs acting_name_stands_before heard found may bodies h.once
      (h.heard (packet.Order from v base acc number sender req) is).says.1

  asking_blank : (t : Status) → is_member t ≡ false → (is_member t || is_asking_status t) ≡ true → (has_log_by_status t ≡ false) × (has_departed t ≡ false)
  asking_blank Status.Asking f k = (refl, refl)
  asking_blank _ f k = absurd (cc)

  welcome_ok : (from : ℕ) (v : Stamp) (base join : ℕ) (image : Image) → c ≡ hears (packet.Welcome from v base join image)
      → MayBeWelcomed x from v base join image → NeedsWelcome s name v base join image
  welcome_ok from v base join image is may =
      let k = h.heard (packet.Welcome from v base join image) is in
      let blank_ = asking_blank x.status may.no_member (both_of_and (not (from == x.core.who)) (is_member x.status || is_asking_status x.status) may.asks).1 in
      elim (k.says.1 name k.addressed) [
        | says.has_begun t ↦ absurd (let f = acting_name_stands_before.log_ ∙ blank_.0 in cc)
        | says.has_gone t ↦ absurd (let f = acting_name_stands_before.stopped ∙ h.runs in cc)
        | says.has_left t ↦ absurd (let f = acting_name_stands_before.departed ∙ blank_.1 in cc)
        | says.is_leaving t ↦ absurd (let log = h.keeps.leaves (sym acting_name_stands_before.leaving ∙ t) in cc)
        | says.may_begin t ↦
            welcome_needs w name from base join x v image s group_is_kept_at_step h.who h.runs h.along.names.promise_ (h.names.stamps (packet.Welcome from v base join image) is)
            (split_on_bool x.leaving (λ u. absurd (let log = h.keeps.leaves u in cc)) (λ f. f))
            (split_on_bool (is_unfinished_ballot x.ballot) (λ u. absurd (let z = (h.keeps.opens u).0 in let y = may.no_member in cc)) (λ f. f))
            acting_name_stands_before may t
      ]

  looks_own : (b : Ballot) → BallotIsLookedAt c x b → x.core.promise.by ≡ name
  looks_own b why = (let o = (balloting_looks_at_open_ballot x b why h.along.balloted).open_ in ap (λ (u : Stamp). u.by) o.promised ∙ o.own ∙ h.who)

  look_ok : (b : Ballot) (v : BallotVerdict) → BallotIsLookedAt c x b → (look : LooksAtBallot x b v) → NeedsLook s name look
  look_ok b v why (decides may) = decided_ballot_has_its_needs w name x b s group_is_kept_at_step (looked_at_ballot_is_known b why) (looks_own b why) (member_set (h.keeps.opens (looked_at_ballot_is_open b why)).0) may
  look_ok b v why _ = tt

  pub heard_name_is_other_member : (from : ℕ) → member_hears_other x from ≡ true → ((from == x.core.who) ≡ false) × (is_member x.status ≡ true)
  heard_name_is_other_member from t = (let both = both_of_and (not (from == x.core.who)) (is_member x.status) t in (not-true (from == x.core.who) both.0, both.1))

  fetch_ok : (from : ℕ) (v : Stamp) (base number : ℕ) (e : Entry) → c ≡ hears (packet.Piece from v base number e) → member_hears_other x from ≡ true
      → stamps_are_equal v x.core.promise ≡ true → MayStoreFetched x from v e → MayStore x (max x.core.base base) base number e → NeedsPiece s name x e
  fetch_ok from v base number e is heard promise why may =
      let o = heard_name_is_other_member from heard in
      piece_gives_its_needs w name from base number x v e s (assumption (group_is_whole_at_step, h, o)) o.0 (sym (stamp_eq_gives_equality v x.core.promise promise)) why may
      (h.heard (packet.Piece from v base number e) is).says.1

  result_ok : (from base number : ℕ) (v : GroupView) → c ≡ hears (packet.Result from base number v)
      → member_hears_other x from ≡ true → (v.stamp.by == from) ≡ true → (v.stamp.by == x.core.who) ≡ false → x.core.promise ≡ v.stamp
      → MayStore x (max x.core.base base) base number (View v) → NeedsEntry s name x (View v)
  result_ok from base number v is heard own other promise may =
      result_gives_view_needs w name from (max x.core.base base) base number x v s group_is_kept_at_step h.who h.runs acting_name_stands_before heard other promise may
      ((h.heard (packet.Result from base number v) is).says.1 (let z : v.stamp.by ≡ from = grind (arith, nat_tests) in z))

  abbrev pub IsNoLastLeave : {o : Outcome} {y : Node} → Change c o x y → Type 0
  IsNoLastLeave (closes leads leaves alone room) = ⊥
  IsNoLastLeave _ = Unit {0}

  pub each_change_has_its_needs : (o : Outcome) (y : Node) (z : Change c o x y) → IsNoLastLeave z → Needs s name z
  each_change_has_its_needs o y (numbers e leads room why) open_ = numbered_entry_has_its_needs e leads why
  each_change_has_its_needs o y (stores from v base acc number e by heard plain may) open_ = store_ok from v base acc number e by heard may
  each_change_has_its_needs o y (begins_list from v base join image is says_ may) open_ = welcome_ok from v base join image is may
  each_change_has_its_needs o y (looks b verdict over why look is) open_ = look_ok b verdict why look
  each_change_has_its_needs o y (fetches from v base number e is heard promise below why may) open_ = fetch_ok from v base number e is heard promise why may
  each_change_has_its_needs o y (stores_view from base number v is heard own other promise below may) open_ =
      result_ok from base number v is heard own other promise may
  each_change_has_its_needs o y (closes leads leaves alone room) open_ = absurd open_
  each_change_has_its_needs o y _ open_ = tt
