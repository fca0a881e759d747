-- What a node needs to store a Piece, from what the Piece says.
use Rattle.am_refinement.proofs.Words.{eqb-false, eqb-true, stamp_eq_gives_equality, ◌≡◌, ◌≢◌, ℕ, suc, ◌<◌, ◌==◌, not, List, [], ◌∷◌, ◌++◌, length, true, false, Some, slice_get}
use Rattle.am_refinement.proofs.Words.{refl, sym, ap, ◌∙◌, subst, arith, max, list_any, append_assoc, Entry, View, Stamp, item_at, IsBeginningOf, IsGoodList, IsNotView, stamp_of_list}
use Rattle.am_refinement.proofs.Words.{key_of_stamp, equal_keys_have_equal_names, view_key_grows_along_list, view_after_pushed_view, view_below_pushed_view, view_stays_by_pushed_non_view, front_begins_append, begins_push_next_entry, beginning_is_no_longer, beginning_of_good_is_good, Group, IsUp}
use Rattle.am_refinement.proofs.Words.{GroupKeeps, Node, Ballot, view, is_member, is_unfinished_ballot, is_view, is_view_of, up_to_view, up_to_next, World, Decided, is_stopped}
use Rattle.am_refinement.proofs.Words.{split_on_bool, HasOpenBallot, MayStore, MayStoreFetched, without_ballot, NameStands, StandsBut, within, line, IsDecided, PieceSays, ShownEntry}
use Rattle.am_refinement.proofs.Words.{of_line, of_shown, over, LinesOpen, IsOthers, NeedsPiece, of_its_line, of_its_shown}
use Rattle.std.proofs.Common.{length-append}
use Rattle.am_step_laws.specs.Changes.{for_ballot}
use Rattle.am_model.specs.Node as nodes
use Rattle.am_refinement.proofs.{Changes.acting_name_stands, Changes.length_of_whole_list, Changes.running_member_is_up, Entries.stamps_of_equal_keys, Entries.line_of_own_stamp, Entries.view_of_whole_list, Sent.SpeaksForItsName}
use Rattle.am_refinement.proofs.{Sent.list_begins_line_of_promise, Heard.item_at_next_number, Heard.heard_entry_gives_its_needs, Letters.item_at_of_longer_list, Votes.open_ballot_is_undecided}

-- ---- the line of a list's last view is all of the list

pub plain_entry_is_not_view : (e : Entry) → is_view e ≡ false → IsNotView e
plain_entry_is_not_view (View v) h = absurd (cc)
plain_entry_is_not_view _ h = tt

rises : (a : List Entry) (e : Entry) → is_view e ≡ true → IsGoodList (a ++ e ∷ []) → key_of_stamp (stamp_of_list a) < key_of_stamp (stamp_of_list (a ++ e ∷ []))
rises a (View v) h g = subst (λ (u : Stamp). key_of_stamp (stamp_of_list a) < key_of_stamp u) (sym (view_after_pushed_view a v))
    (view_below_pushed_view a v g)
rises a _ h g = absurd (cc)

-- after the last View there is none
pub no_view_after_last_view : (a es : List Entry) → IsGoodList (a ++ es) → stamp_of_list (a ++ es) ≡ stamp_of_list a → list_any is_view es ≡ false
no_view_after_last_view a [] g same = refl
no_view_after_last_view a (e ∷ es) g same =
    let again : (a ++ e ∷ []) ++ es ≡ a ++ e ∷ es = append_assoc a (e ∷ []) es in
    let good = subst IsGoodList (sym again) g in
    let first = front_begins_append (a ++ e ∷ []) es in
    split_on_bool (is_view e)
    (λ t. absurd (
    let above = rises a e t (beginning_of_good_is_good first good) in
    let low = view_key_grows_along_list good first in
    let last : key_of_stamp (stamp_of_list ((a ++ e ∷ []) ++ es)) ≡ key_of_stamp (stamp_of_list a) = ap (λ l. key_of_stamp (stamp_of_list l)) again ∙ ap key_of_stamp same in
    omega arith))
    (λ f. rw f (no_view_after_last_view (a ++ e ∷ []) es good (ap stamp_of_list again ∙ same ∙ sym (view_stays_by_pushed_non_view a e (plain_entry_is_not_view e f)))))

no_next : (es : List Entry) → list_any is_view es ≡ false → up_to_view es ≡ es
unfolding up_to_view
no_next [] h = refl
no_next (e ∷ es) h = split_on_bool (is_view e)
    (λ t. absurd (let z = rw t at h in cc))
    (λ f. rw f (ap (λ l. e ∷ l) (no_next es (rw f at h))))

viewed_now : (v : Stamp) (a : List Entry) (e : Entry) → is_view_of v e ≡ true → stamp_of_list (a ++ e ∷ []) ≡ v
viewed_now v a (View w) h = view_after_pushed_view a w ∙ stamp_eq_gives_equality w.stamp v h
viewed_now v a _ h = absurd (cc)

all_line : (v : Stamp) (a es : List Entry) → IsGoodList (a ++ es) → stamp_of_list (a ++ es) ≡ v → up_to_next v es ≡ es
unfolding up_to_next
all_line v a [] g viewed = refl
all_line v a (e ∷ es) g viewed =
    let again : (a ++ e ∷ []) ++ es ≡ a ++ e ∷ es = append_assoc a (e ∷ []) es in
    let good = subst IsGoodList (sym again) g in
    let last = ap stamp_of_list again ∙ viewed in
    split_on_bool (is_view_of v e)
    (λ t. rw t (ap (λ l. e ∷ l) (no_next es (no_view_after_last_view (a ++ e ∷ []) es good (last ∙ sym (viewed_now v a e t))))))
    (λ f. rw f (ap (λ l. e ∷ l) (all_line v (a ++ e ∷ []) es good last)))

-- ---- what is known of who fetches

pub record FetcherIsKnown (w : World) (name : ℕ) (x : Node) (s : Group) : Type 0 where
  pub kept : GroupKeeps s
  pub opens : LinesOpen s
  pub few : name < 256
  pub who : x.core.who ≡ name
  pub promise : x.core.promise.by < 256
  pub runs : is_stopped w name ≡ false
  pub noted : (k : ℕ) (d : Decided) → slice_get w.views k ≡ Some d → d.stamp.by < 256
  pub stands : StandsBut name (within w name x) s
  pub member : is_member x.status ≡ true

own : (w : World) (name : ℕ) (x : Node) (s : Group) → FetcherIsKnown w name x s → NameStands (within w name x) name x (s.node name)
own w name x s h = acting_name_stands w name x s h.few h.stands

up_name : (w : World) (name : ℕ) (x : Node) (s : Group) → FetcherIsKnown w name x s → IsUp (s.node name)
up_name w name x s h = running_member_is_up w name x (s.node name) h.runs h.member (own w name x s h)

-- ---- a list whose view is of its own name is that view's line

own_line : (w : World) (name : ℕ) (x : Node) (s : Group) → FetcherIsKnown w name x s → (view x).by ≡ name → IsDecided s (view x)
    → line s (view x) ≡ (s.node name).list
own_line w name x s h by decided =
    let a = s.node name in
    let old = own w name x s h in
    let noted = h.stands.views.decided (key_of_stamp (view x)) decided in
    let d = noted.view in
    let is = h.stands.views.noted noted.index d noted.there in
    let low : (view x).by < 256 = omega arith in
    let same : d.stamp ≡ view x = stamps_of_equal_keys d.stamp (view x) (h.noted noted.index d noted.there) low noted.is in
    let mine : d.stamp.by ≡ name = ap (λ (u : Stamp). u.by) same ∙ by in
    let good = beginning_of_good_is_good ((h.kept.each name).list (up_name w name x s h)) h.kept.views.good in
    let viewed : stamp_of_list a.list ≡ d.stamp = view_of_whole_list w name x a old ∙ sym same in
    ap (λ (u : Stamp). s.views.line (key_of_stamp u)) (sym same) ∙ is.line ∙ line_of_own_stamp w name x d.stamp mine ∙ ap (up_to_next d.stamp) (sym old.list)
    ∙ all_line d.stamp [] a.list good viewed

not_nothing : (list : List Entry) (f : Entry) → list ++ f ∷ [] ≢ []
not_nothing [] f same = cc
not_nothing (x ∷ list) f same = cc

-- so what comes next in the line of a decided view isn't an entry of its own view
others_entry : (w : World) (name : ℕ) (x : Node) (e : Entry) (s : Group) (y : ℕ) → FetcherIsKnown w name x s → s.views.decided y ≡ true
    → IsBeginningOf (s.node name).list (s.views.line y) → slice_get (s.views.line y) (length (s.node name).list) ≡ Some e → IsOthers name x e
others_entry w name x e s y h decided begins next by = split_on_bool (is_view e)
    (λ t. t)
    (λ f. absurd (
    let a = s.node name in
    let o = h.opens y (a.list ++ e ∷ []) decided (not_nothing a.list e) (begins_push_next_entry e begins next) in
    let viewed : stamp_of_list (a.list ++ e ∷ []) ≡ view x = view_stays_by_pushed_non_view a.list e (plain_entry_is_not_view e f) ∙ view_of_whole_list w name x a (own w name x s h) in
    let mine = own_line w name x s h by (ap (λ (u : Stamp). s.views.decided (key_of_stamp u)) (sym viewed) ∙ o.decided) in
    let long = beginning_is_no_longer (subst (IsBeginningOf (a.list ++ e ∷ [])) mine (subst (λ (u : Stamp). IsBeginningOf (a.list ++ e ∷ []) (line s u)) viewed o.line_)) in
    let z = length-append a.list (e ∷ []) in
    omega arith))

-- ---- a Piece

-- of the line of the promise
line_needs : (w : World) (name base number : ℕ) (x : Node) (v : Stamp) (e : Entry) (s : Group) → FetcherIsKnown w name x s → x.core.promise ≡ v → v.by ≢ name
    → MayStore x (max x.core.base base) base number e → IsDecided s v → item_at (line s v) number ≡ Some e → NeedsPiece s name x e
line_needs w name base number x v e s h promise other may decided stands =
    let a = s.node name in
    let old = own w name x s h in
    let up = up_name w name x s h in
    let speaks : SpeaksForItsName (within w name x) name x s = record { kept = h.kept; stands = old; up = up; who = h.who } in
    let begins : IsBeginningOf a.list (line s v) = subst (λ (u : Stamp). IsBeginningOf a.list (line s u)) promise
    (list_begins_line_of_promise (within w name x) name x s speaks (ap (λ (u : Stamp). s.views.decided (key_of_stamp u)) promise ∙ decided)) in
    let next : slice_get (line s v) (length a.list) ≡ Some e = ap (slice_get (line s v)) (length_of_whole_list (within w name x) name x a old)
    ∙ item_at_next_number (line s v) (nodes.top x) e number may.next stands in
    of_its_line (heard_entry_gives_its_needs w name number x v e s h.kept h.who old up promise other
    (others_entry w name x e s (key_of_stamp v) h decided begins next) decided stands may.next may.stays)

-- of a list that was shown
shown_needs : (w : World) (name from base number : ℕ) (x : Node) (v : Stamp) (e : Entry) (s : Group) → FetcherIsKnown w name x s → x.core.promise ≡ v
    → is_unfinished_ballot x.ballot ≡ true → MayStore x (max x.core.base base) base number e → ShownEntry s from v number e → NeedsPiece s name x e
shown_needs w name from base number x v e s h promise unfinished may is =
    let a = s.node name in
    let old = own w name x s h in
    let up = up_name w name x s h in
    let stamp : v ≡ a.promise = sym promise ∙ sym old.promise in
    let served : s.served (key_of_stamp a.promise) from ≡ true = ap (λ (u : Stamp). s.served (key_of_stamp u) from) (sym stamp) ∙ is.served in
    let shown : s.shown (key_of_stamp a.promise) from ≡ Some is.list = ap (λ (u : Stamp). s.shown (key_of_stamp u) from) (sym stamp) ∙ is.shown in
    let chain = (h.kept.served name from is.list up (old.ballot ∙ unfinished) served shown).chain in
    let next : slice_get is.list (length a.list) ≡ Some e = ap (slice_get is.list) (length_of_whole_list (within w name x) name x a old)
    ∙ item_at_next_number is.list (nodes.top x) e number may.next is.stands in
    of_its_shown unfinished (record {
      others = others_entry w name x e s (key_of_stamp s.views.current) h h.kept.views.now ((h.kept.each name).list up)
          (item_at_of_longer_list is.list (s.views.line (key_of_stamp s.views.current)) (suc (length a.list)) e chain next);
      from = from;
      list = is.list;
      served = served;
      shown = shown;
      next = next;
    })

opened : (x : Node) (b : Ballot) → HasOpenBallot x b → is_unfinished_ballot x.ballot ≡ true
opened x b h = ap is_unfinished_ballot h.last ∙ ap not h.open_

pub piece_gives_its_needs : (w : World) (name from base number : ℕ) (x : Node) (v : Stamp) (e : Entry) (s : Group) → FetcherIsKnown w name x s
    → (from == x.core.who) ≡ false → x.core.promise ≡ v → MayStoreFetched x from v e → MayStore x (max x.core.base base) base number e
    → PieceSays s from v number e → NeedsPiece s name x e
piece_gives_its_needs w name from base number x v e s h other promise (without_ballot none by past) may (of_line sent decided stands) =
    let who = h.who in
    line_needs w name base number x v e s h promise (λ same. eqb-false from x.core.who other (sym (eqb-true v.by from by) ∙ same ∙ sym who)) may decided stands
piece_gives_its_needs w name from base number x v e s h other promise (without_ballot none by past) may (of_shown is) = absurd (
    let ok = h.kept.shown (key_of_stamp v) from is.list is.shown in
    let small : v.by < 256 = subst (λ (u : Stamp). u.by < 256) promise h.promise in
    let same = equal_keys_have_equal_names ok.stamp v ok.small small ok.is in
    ok.other (same ∙ eqb-true v.by from by))
piece_gives_its_needs w name from base number x v e s h other promise (without_ballot none by past) may (over not_by decided) = absurd (not_by (eqb-true v.by from by))
piece_gives_its_needs w name from base number x v e s h other promise (for_ballot b open_ fetching past) may (of_line sent decided stands) = absurd (
    let up = up_name w name x s h in
    let old = own w name x s h in
    let by = ((h.kept.each name).ballot up (old.ballot ∙ opened x b open_)).by in
    let same : v.by ≡ name = ap (λ (u : Stamp). u.by) (sym promise ∙ sym old.promise) ∙ by in
    eqb-false from x.core.who other (sym sent ∙ same ∙ sym h.who))
piece_gives_its_needs w name from base number x v e s h other promise (for_ballot b open_ fetching past) may
    (of_shown is) = shown_needs w name from base number x v e s h promise (opened x b open_) may is
piece_gives_its_needs w name from base number x v e s h other promise (for_ballot b open_ fetching past) may (over not_by decided) = absurd (
    let up = up_name w name x s h in
    let old = own w name x s h in
    let fresh = open_ballot_is_undecided s name h.kept up (old.ballot ∙ opened x b open_) in
    let is : s.views.decided (key_of_stamp (s.node name).promise) ≡ true = ap (λ (u : Stamp). s.views.decided (key_of_stamp u)) (old.promise ∙ promise) ∙ decided in
    cc)
