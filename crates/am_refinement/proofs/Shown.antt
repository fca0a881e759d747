-- Votes: what a coordinator keeps of them, and what a voter shows.
use Rattle.am_refinement.proofs.Words.{◌≡◌, ◌≢◌, ◌⊎◌, either, ℕ, ◌<◌, ◌≤◌, ◌==◌, not, List, true, false, Option, Some, None, refl, sym, ap, ◌∙◌, subst, arith}
use Rattle.am_refinement.proofs.Words.{nat_tests, Entry, Vote, Image, Stamp, has, members_of_image, item_at, is_member_at_end, stamp_of_list, key_of_stamp, Group, IsThere, function_with_value_of_two, GroupKeeps, put2_at_same_or_other}
use Rattle.am_refinement.proofs.Words.{Node, Ballot, is_member, own_vote, World, split_on_bool, both_of_and, Cause, hears, HasOpenBallot, BallotIsLookedAt, with_more, without_one, Packet}
use Rattle.am_refinement.proofs.Words.{as_it_is, NameStands, VoteTells, VoteSays, FetchSays, PieceSays, own, tells, over, for_ballot, of_promise}
use Rattle.am_refinement.proofs.Words.{of_shown, Moves, none, moves, MovesLeadTo, VotesStand, Grows, ShowsMore}
use Rattle.am_abstract_group.specs.Moves as group
use Rattle.am_model.specs.Node as nodes
use Rattle.am_step_laws.specs.Letters as letters
use Rattle.am_refinement.proofs.{Changes.image_of_whole_list, Changes.length_of_whole_list, Sent.SpeaksForItsName, Sent.standing_entry_is_list_item}

-- ---- the votes that a coordinator keeps

pub votes_stand_as_group_grows : (s t : Group) (ballot : Option Ballot) → Grows s t → VotesStand s ballot → VotesStand t ballot
votes_stand_as_group_grows s t None g h = tt
votes_stand_as_group_grows s t (Some b) g h = λ open_ j vote is. (let k = h open_ j vote is in
    record { list = k.list; shown = g.shown (key_of_stamp b.stamp) j k.list k.shown; view = k.view; top = k.top; members = k.members; taken = k.taken })

kept_votes : (x : Node) (b : Ballot) (s : Group) → HasOpenBallot x b → VotesStand s x.ballot → (j : ℕ) (vote : Vote) → b.votes j ≡ Some vote
    → VoteTells s j b.stamp vote
kept_votes x b s o h = (subst (VotesStand s) o.last h) o.open_

-- the ballot that is looked at keeps votes that tell what was shown, where its stamp is of its own name and nothing was decided of it
pub looked_at_votes_were_shown : (c : Cause) (x : Node) (b : Ballot) (s : Group) → BallotIsLookedAt c x b → b.stamp.by ≡ x.core.who → s.views.decided (key_of_stamp b.stamp) ≡ false
    → ((from : ℕ) (v : Stamp) (vote : Vote) → c ≡ hears (Packet.Vote from v vote) → VoteSays s from v vote) → VotesStand s x.ballot → (j : ℕ) (vote : Vote)
    → b.votes j ≡ Some vote → VoteTells s j b.stamp vote
looked_at_votes_were_shown c x b s (as_it_is old o on) own_ fresh heard h = kept_votes x old s o h
looked_at_votes_were_shown c x b s (without_one old name is o other) own_ fresh heard h = λ j vote. split_on_bool (j == name)
    (λ t. λ at. absurd (let z = rw t at at in cc))
    (λ f. λ at. kept_votes x old s o h j vote (rw f at at))
looked_at_votes_were_shown c x b s (with_more old from v shown is heard_ low high o same stays) own_ fresh heard h = λ j vote. split_on_bool (j == from)
    (λ t. λ at. (let is_from : j ≡ from = grind (arith, nat_tests) in
    let is_vote : shown ≡ vote = cc in
    let other = (both_of_and (not (from == x.core.who)) (is_member x.status) heard_).0 in
    subst (λ k. VoteTells s k old.stamp vote) (sym is_from)
    (subst (VoteTells s from old.stamp) is_vote
    (subst (λ u. VoteTells s from u shown) (sym same)
    (said s from v shown (λ by. (let z : (from == x.core.who) ≡ true = (let y = ap (λ (u : Stamp). u.by) same in grind (arith, nat_tests)) in
    let q : not true ≡ true = subst (λ k. not k ≡ true) z other in cc)) (ap (λ (u : Stamp). s.views.decided (key_of_stamp u)) (sym same) ∙ fresh)
    (heard from v shown is))))))
    (λ f. λ at. kept_votes x old s o h j vote (rw f at at))
  where
    said : (s : Group) (from : ℕ) (v : Stamp) (shown : Vote) → (v.by ≡ from → ⊥) → s.views.decided (key_of_stamp v) ≡ false → VoteSays s from v shown
        → VoteTells s from v shown
    said s from v shown other fresh (own by) = absurd (other by)
    said s from v shown other fresh (tells k) = k
    said s from v shown other fresh (over d) = absurd (cc)

-- ---- what a voter shows

-- a vote for another's ballot that isn't decided: its list is shown, if it wasn't
pub record VoterIsKnown (v : World) (i : ℕ) (n : Node) (s : Group) : Type 0 where
  pub kept : GroupKeeps s
  pub stands : NameStands v i n (s.node i)
  pub there : IsThere (s.node i)
  pub small : n.core.promise.by < 256
  pub begun : key_of_stamp n.core.promise ≤ key_of_stamp (s.node n.core.promise.by).promise
  pub taken : n.core.taken ≤ nodes.top n

tells_list : (v : World) (i : ℕ) (n : Node) (s t : Group) → VoterIsKnown v i n s → t.shown (key_of_stamp n.core.promise) i ≡ Some (s.node i).list
    → VoteTells t i n.core.promise (own_vote n)
unfolding stamp_of_list
tells_list v i n s t h is =
    let a = s.node i in
    let told_is = image_of_whole_list v i n a h.stands in
    let long = length_of_whole_list v i n a h.stands in
    let taken = h.taken in
    record {
      list = a.list;
      shown = is;
      view = ap (λ (g : Image). g.view) (sym told_is);
      top = sym long;
      members = ap members_of_image (sym told_is);
      taken = omega arith;
    }

pub record VoteSaysWhatIsShown (i : ℕ) (n : Node) (s t : Group) : Type 0 where
  pub same : ShowsMore s t
  pub says : VoteSays t i n.core.promise (own_vote n)

pub voter_shows_what_it_says : (v : World) (i : ℕ) (n : Node) (s : Group) → VoterIsKnown v i n s → MovesLeadTo (VoteSaysWhatIsShown i n s) s
voter_shows_what_it_says v i n s h =
    let p = n.core.promise in
    let a = s.node i in
    let promised : a.promise ≡ p = h.stands.promise in
    let here : Moves s s = none in
    let same : ShowsMore s s = record { node = refl; views = refl; group_ = refl } in
    split_on_bool (p.by == i)
    (λ t. record { to = s; path = here; is = record { same = same; says = own (grind (arith, nat_tests)) } })
    (λ f. split_on_bool (s.views.decided (key_of_stamp p))
    (λ d. record { to = s; path = here; is = record { same = same; says = over d } })
    (λ fresh. show v i n s h f fresh (s.shown (key_of_stamp p) i) refl))
  where
    show : (v : World) (i : ℕ) (n : Node) (s : Group) → VoterIsKnown v i n s → (n.core.promise.by == i) ≡ false → s.views.decided (key_of_stamp n.core.promise) ≡ false
        → (o : Option (List Entry)) → s.shown (key_of_stamp n.core.promise) i ≡ o → MovesLeadTo (VoteSaysWhatIsShown i n s) s
    show v i n s h f fresh (Some list) is =
        let a = s.node i in
        let promised : a.promise ≡ n.core.promise = h.stands.promise in
        let shown : s.shown (key_of_stamp a.promise) i ≡ Some list = ap (λ (u : Stamp). s.shown (key_of_stamp u) i) promised ∙ is in
        let still = h.kept.still i list shown (ap (λ (u : Stamp). s.views.decided (key_of_stamp u)) promised ∙ fresh) in
        record {
          to = s;
          path = none;
          is = record {
            same = record { node = refl; views = refl; group_ = refl };
            says = tells
                (tells_list v i n s s h (is ∙ ap Some (sym still)));
          };
        }
    show v i n s h f fresh None is =
        let a = s.node i in
        let promised : a.promise ≡ n.core.promise = h.stands.promise in
        let t = record s { shown = function_with_value_of_two s.shown (key_of_stamp a.promise) i (Some a.list) } in
        let other : a.promise.by ≢ i = λ e. (let z :
        (n.core.promise.by == i) ≡ true = (let y = ap (λ (u : Stamp). u.by) promised in grind (arith, nat_tests)) in cc) in
        let small : a.promise.by < 256 = subst (λ (u : Stamp). u.by < 256) (sym promised) h.small in
        let begun : key_of_stamp a.promise ≤ key_of_stamp (s.node a.promise.by).promise = subst (λ (u : Stamp). key_of_stamp u ≤ key_of_stamp (s.node u.by).promise) (sym promised) h.begun in
        let shown : function_with_value_of_two s.shown (key_of_stamp a.promise) i (Some a.list) (key_of_stamp n.core.promise) i ≡ Some a.list =
        either (put2_at_same_or_other s.shown (key_of_stamp a.promise) i (Some a.list) (key_of_stamp n.core.promise) i)
        (λ z. z.2)
        (λ z. absurd (z.0 (ap key_of_stamp (sym promised), refl))) in
        record {
          to = t;
          path = moves (group.shows i h.there small other begun (ap (λ (u : Stamp). s.shown (key_of_stamp u) i) promised ∙ is)) tt none;
          is = record { same = record { node = refl; views = refl; group_ = refl }; says = tells (tells_list v i n s t h shown) };
        }

-- ---- what a voter sends of its list

pub record PieceSaysWhatIsShown (i number : ℕ) (n : Node) (e : Entry) (s t : Group) : Type 0 where
  pub same : ShowsMore s t
  pub says : PieceSays t i n.core.promise number e

-- a Piece that the name of its promise fetches: where that isn't decided, of the list that was shown, which is served from then on
pub served_piece_of_shown_list : (v : World) (i from base number : ℕ) (n : Node) (e : Entry) (s : Group) (to : List ℕ) → SpeaksForItsName v i n s → n.core.promise.by ≡ from
    → from ≢ i → has to i ≡ true → FetchSays s from n.core.promise to
    → n.core.log.start ≤ base → letters.EntryStands n.core.log base number e → MovesLeadTo (PieceSaysWhatIsShown i number n e s) s
served_piece_of_shown_list v i from base number n e s to h by other asked (of_promise not_by of_all) low at = absurd (not_by by)
served_piece_of_shown_list v i from base number n e s to h by other asked (for_ballot own_by all) low at = split_on_bool (s.views.decided (key_of_stamp n.core.promise))
    (λ d. record {
      to = s;
      path = none;
      is = record {
        same = record { node = refl; views = refl; group_ = refl };
        says = over
            (λ same. other (sym by ∙ same)) d;
      };
    })
    (λ fresh.
    let a = s.node i in
    let p = n.core.promise in
    let promised : a.promise ≡ p = h.stands.promise in
    let known = all i asked in
    let list = known.list in
    let shown : s.shown (key_of_stamp a.promise) i ≡ Some list = ap (λ (u : Stamp). s.shown (key_of_stamp u) i) promised ∙ known.shown in
    let still : a.list ≡ list = h.kept.still i list shown (ap (λ (u : Stamp). s.views.decided (key_of_stamp u)) promised ∙ fresh) in
    let others : (j : ℕ) → is_member_at_end list j ≡ true → IsThere (s.node j) → (j ≡ a.promise.by) ⊎ ((vote : List Entry) × (s.shown (key_of_stamp a.promise) j ≡ Some vote)) =
    subst (λ (u : Stamp). (j : ℕ) → is_member_at_end list j ≡ true → IsThere (s.node j) → (j ≡ u.by) ⊎ ((vote : List Entry) × (s.shown (key_of_stamp u) j ≡ Some vote)))
    (sym promised) known.others in
    let served : function_with_value_of_two s.served (key_of_stamp a.promise) i true (key_of_stamp p) i ≡ true = either (put2_at_same_or_other s.served (key_of_stamp a.promise) i true (key_of_stamp p) i)
    (λ z. z.2)
    (λ z. absurd
    (z.0 (ap key_of_stamp (sym promised), refl))) in
    record {
      to = record s { served = function_with_value_of_two s.served (key_of_stamp a.promise) i true };
      path = moves (group.serves i list h.up shown others) tt none;
      is = record {
        same = record { node = refl; views = refl; group_ = refl };
        says = of_shown (record {
          served = served;
          list = list;
          shown = known.shown;
          stands = ap (λ l. item_at l number) (sym still)
              ∙ standing_entry_is_list_item v i n a base number e h.stands low at;
        });
      };
    })
