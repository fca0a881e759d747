-- Each letter that is sent is so.
use Rattle.am_refinement.proofs.Words.{only_name_has_just_itself, eqb-false, eqb-true, stamp_eq_gives_equality, ◌≡◌, ◌≢◌, ℕ, ◌<◌, ◌≤◌, ◌==◌, ◌&&◌, ◌||◌, true, false, List, [], ◌∷◌, length, take}
use Rattle.am_refinement.proofs.Words.{refl, sym, ap, ◌∙◌, subst, arith, nat_tests, slice_get_within, Entry, Data, Image, Stamp, has, stamps_are_equal, no_stamp, row_of_name}
use Rattle.am_refinement.proofs.Words.{log_entry_at, log_image_at, image_after_entries, Packet, IsBeginningOf, is_member_at_end, stamp_of_list, key_of_stamp, beginning_of_good_is_good, equal_keys_have_equal_names, name_of_view_is_byte, Group, IsThere, list_with_chosen_view}
use Rattle.am_refinement.proofs.Words.{Status, Node, view, is_member, acts_in_its_view, is_sequencer, set_of_one_name, has_log_by_status, has_departed, own_vote, may_fetch, members_of_view_entry, World}
use Rattle.am_refinement.proofs.Words.{split_on_bool, both_of_and, Cause, hears, MayFetch, MayTellResult, leads, decided, request, spread, bcast, order, ack, nack, welcome}
use Rattle.am_refinement.proofs.Words.{leave_ask, gone, vote, fetch, piece, result, member_status_has_log, IsDecided, AllShown, FetchSays, PacketSays, ResultSays, none, MovesLeadTo}
use Rattle.am_refinement.proofs.Words.{KeptWhole, as_before, just_begun, Sender, ShowsMore, SaysSo, SentSays, suc, ◌+◌, ◌-◌, ◌++◌, Some, slice_get}
use Rattle.am_refinement.proofs.Words.{list_any, View, GroupView, after, item_at, IsGoodList, image_of_list, entry_after_beginning, image_after_pushed_entry, view_after_pushed_view, is_view, plain_entry_keeps_image_view}
use Rattle.am_refinement.proofs.Words.{image_after_view_has_it, OwnDecided, stamp_eq_of_itself}
use Rattle.am_step_laws.specs.Letters.{for_ballot, of_promise, accept}
use Rattle.am_abstract_group.specs.Group as groups
use Rattle.am_model.specs.Node as nodes
use Rattle.am_step_laws.specs.Letters as letters
use Rattle.am_refinement.specs.Letters as says
use Rattle.am_refinement.proofs.Changes.{image_of_whole_list, length_of_whole_list}
use Rattle.am_refinement.proofs.Entries.{stamps_of_equal_keys}
use Rattle.am_refinement.proofs.Membership.Going.{sent_gone_says_so}
use Rattle.am_refinement.proofs.Opens.{up_name_list_opens_line}
use Rattle.am_refinement.proofs.Sent.{SpeaksForItsName, sequencer_leads_its_line}
use Rattle.am_refinement.proofs.{Sent.sent_report_says_so, Sent.sent_leaver_report_says_so, Sent.sequencer_accepts_what_group_has, Sent.sent_entry_says_so, Sent.sent_piece_says_so, Shown.PieceSaysWhatIsShown, Shown.voter_shows_what_it_says}
use Rattle.am_refinement.proofs.Shown.{served_piece_of_shown_list}
use Rattle.am_refinement.proofs.Membership.Welcoming.{welcomed_name_is_accepted_member, sent_welcome_says_so}
use Rattle.am_refinement.proofs.Pieces.{no_view_after_last_view}
use Rattle.am_refinement.proofs.Parts.{entry_at_of_whole_list}
use Rattle.am_base.proofs.Members.{fold_entries_append}

-- ---- the Result that is sent is so: a sequencer's View stands in the line of its view

-- ---- the last View of a list

plain_fold : (image : Image) (n : ℕ) (es : List Entry) → list_any is_view es ≡ false
    → ((image_after_entries image n es).view_number ≡ image.view_number) × ((image_after_entries image n es).resilience ≡ image.resilience)
unfolding image_after_entries
plain_fold image n [] h = (refl, refl)
plain_fold image n (e ∷ es) h = split_on_bool (is_view e)
    (λ t. absurd (let z = rw t at h in cc))
    (λ f.
    let r = plain_fold (after image n e) (n + 1) es (rw f at h) in
    let one = plain_entry_keeps_image_view image n e f in
    (r.0 ∙ one.number, r.1 ∙ one.resilience))

pub last_view_number_and_resilience : (before : List Entry) (v : GroupView) (list : List Entry) → IsGoodList list
    → IsBeginningOf (before ++ View v ∷ []) list → stamp_of_list list ≡ v.stamp
    → ((image_of_list list).view_number ≡ length before + 1) × ((image_of_list list).resilience ≡ v.resilience)
last_view_number_and_resilience before v list good h viewed =
    let e = View v in
    let a = before ++ e ∷ [] in
    let none = no_view_after_last_view a h.rest (subst IsGoodList (sym h.same) good) (ap stamp_of_list h.same ∙ viewed ∙ sym (view_after_pushed_view before v)) in
    let rest = plain_fold (image_of_list a) (1 + length a) h.rest none in
    let all : image_of_list list ≡ image_after_entries (image_of_list a) (1 + length a) h.rest = ap image_of_list (sym h.same) ∙ fold_entries_append _ 1 a h.rest in
    let last = image_after_pushed_entry before e in
    let its = image_after_view_has_it (image_of_list before) (1 + length before) v in
    let number : (image_of_list list).view_number ≡ 1 + length before = ap (λ (g : Image). g.view_number) all ∙ rest.0 ∙ ap (λ (g : Image). g.view_number) last
    ∙ its.1 in
    (omega arith, ap (λ (g : Image). g.resilience) all ∙ rest.1 ∙ ap (λ (g : Image). g.resilience) last ∙ its.2)

-- ---- who tells a View

-- of its own promise, leads
pub teller_of_own_promise_leads : (n : Node) → is_member n.status ≡ true → MayTellResult n → OwnDecided n → n.core.promise.by ≡ n.core.who → is_sequencer n ≡ true
teller_of_own_promise_leads n member (leads t) told mine = t
teller_of_own_promise_leads n member (decided b number names there answer at) told mine =
    let same : view n ≡ n.core.promise = at ∙ sym (told b number names there answer mine) in
    let own : ((view n).by == n.core.who) ≡ true = (let z = ap (λ (u : Stamp). u.by) same ∙ mine in grind (arith, nat_tests)) in
    let acting : stamps_are_equal n.core.promise (view n) ≡ true = subst (λ u. stamps_are_equal n.core.promise u ≡ true) (sym same) (stamp_eq_of_itself n.core.promise) in
    rw (member, acting, own) refl

-- ---- the letter

result_said : (v : World) (i number : ℕ) (n : Node) (names : List ℕ) (s : Group) → SpeaksForItsName v i n s → is_sequencer n ≡ true
    → (s.views.chosen (key_of_stamp n.core.promise)).stamp ≡ n.core.promise
    → IsBeginningOf (list_with_chosen_view (s.views.chosen (key_of_stamp n.core.promise))) (s.views.line (key_of_stamp n.core.promise))
    → n.core.log.start < (nodes.image_of_node n).view_number → number ≡ (nodes.image_of_node n).view_number → members_of_view_entry (log_entry_at n.core.log number) ≡ names
    → ResultSays s i number (record { stamp = n.core.promise; members = names; resilience = (nodes.image_of_node n).resilience })
result_said v i number n names s h t stamp opens low is viewed =
    let a = s.node i in
    let l = sequencer_leads_its_line v i n s h t in
    let c = s.views.chosen (key_of_stamp n.core.promise) in
    let told_is = image_of_whole_list v i n a h.stands in
    let chain = ((h.kept.each i).leads l.leads).chain in
    let good : IsGoodList a.list = subst IsGoodList (sym chain) h.kept.views.good in
    let its : GroupView = record c.view { stamp = n.core.promise } in
    let here : IsBeginningOf (c.before ++ View its ∷ []) a.list = subst (λ (u : Stamp). IsBeginningOf (c.before ++ View (record c.view { stamp = u }) ∷ []) a.list)
    stamp (subst (IsBeginningOf (list_with_chosen_view c)) l.line_ opens) in
    let last = last_view_number_and_resilience c.before its a.list good here l.viewed in
    let at : slice_get a.list (length c.before) ≡ Some (View its) = entry_after_beginning c.before (View its) here in
    let where_ : number ≡ length c.before + 1 = is ∙ ap (λ (g : Image). g.view_number) (sym told_is) ∙ last.0 in
    let strong : c.resilience ≡ (nodes.image_of_node n).resilience = sym last.1 ∙ ap (λ (g : Image). g.resilience) told_is in
    let index : number - 1 ≡ length c.before = omega arith in
    let entry : log_entry_at n.core.log number ≡ Some (View its) = entry_at_of_whole_list v i number n a h.stands (omega arith)
    ∙ ap (slice_get a.list) index ∙ at in
    let named : c.members ≡ names = ap members_of_view_entry (sym entry) ∙ viewed in
    record {
      by = ap (λ (u : Stamp). u.by) (sym l.viewed) ∙ l.leads.by;
      decided = l.decided;
      stands = ap (λ g. item_at g number) l.line_ ∙ (let z : number ≡ suc (length c.before) = omega arith in ap (item_at a.list) z) ∙ at
          ∙ (λ j. Some (View (record { stamp = n.core.promise; members = named j; resilience = strong j })));
    }

-- ---- who acts

pub log_status_undeparted_is_member : (t : Status) → has_log_by_status t ≡ true → has_departed t ≡ false → is_member t ≡ true
log_status_undeparted_is_member Status.Member h d = refl
log_status_undeparted_is_member _ h d = absurd (cc)

no_round : key_of_stamp no_stamp < 256
unfolding key_of_stamp
no_round = omega arith

pub view_of_nil : stamp_of_list [] ≡ no_stamp
unfolding stamp_of_list image_after_entries
view_of_nil = refl

some_list : (list : List Entry) (p : Stamp) → stamp_of_list list ≡ p → 256 ≤ key_of_stamp p → list ≢ []
some_list [] p same round empty = (let z = ap key_of_stamp (sym view_of_nil ∙ same) in let y = no_round in let x : ⊥ = omega arith in x)
some_list (e ∷ es) p same round empty = cc

-- who acts has a promise that was decided: its list's view
acts_decided : (v : World) (i : ℕ) (n : Node) (s : Group) → KeptWhole s → SpeaksForItsName v i n s → acts_in_its_view n ≡ true → IsDecided s n.core.promise
unfolding stamp_of_list
acts_decided v i n s g h t =
    let acting = both_of_and (is_member n.status) (stamps_are_equal n.core.promise (view n)) t in
    let promise = stamp_eq_gives_equality n.core.promise (view n) acting.1 in
    let viewed : stamp_of_list (s.node i).list ≡ n.core.promise = ap (λ (x : Image). x.view) (image_of_whole_list v i n (s.node i) h.stands) ∙ sym promise in
    let mine : key_of_stamp (s.node i).promise ≡ key_of_stamp n.core.promise = ap key_of_stamp h.stands.promise in
    let some = some_list (s.node i).list n.core.promise viewed (omega arith) in
    ap (λ (u : Stamp). s.views.decided (key_of_stamp u)) (sym viewed) ∙ (up_name_list_opens_line s i g.kept g.opens h.up some).decided

acting_member : (n : Node) → acts_in_its_view n ≡ true → is_member n.status ≡ true
acting_member n t = (both_of_and (is_member n.status) (stamps_are_equal n.core.promise (view n)) t).0

leading_acts : (n : Node) → is_sequencer n ≡ true → acts_in_its_view n ≡ true
leading_acts n t = (both_of_and (acts_in_its_view n) ((view n).by == n.core.who) t).0

module _ (v : World) (i : ℕ) (c : Cause) (m n : Node) (s : Group) (h : Sender v i c m n s) where
  speaks : is_member n.status ≡ true → SpeaksForItsName v i n s
  speaks t = record { kept = h.group.kept; stands = h.stands; up = record { log = h.stands.log_ ∙ member_status_has_log n.status t; there = h.there }; who = h.who }

  speaks_acting : acts_in_its_view n ≡ true → SpeaksForItsName v i n s
  speaks_acting t = speaks (acting_member n t)

  speaks_leading : is_sequencer n ≡ true → SpeaksForItsName v i n s
  speaks_leading t = speaks_acting (leading_acts n t)

  -- who has a log is a member
  logged_member : has_log_by_status n.status ≡ true → is_member n.status ≡ true
  logged_member t = log_status_undeparted_is_member n.status t (sym h.stands.departed ∙ h.there.stays)

  so : (to : List ℕ) (p : Packet) → PacketSays v s to p → MovesLeadTo (SaysSo v to p s) s
  so to p k = record { to = s; path = none; is = record { same = record { node = refl; views = refl; group_ = refl }; says = k } }

  reports : acts_in_its_view n ≡ true → says.ReportSays s i n.core.promise (nodes.own_report_of n)
  reports t = sent_report_says_so v i n s (speaks_acting t) (acts_decided v i n s h.group (speaks_acting t) t)

  sends_own : (to : List ℕ) (req : ℕ) (body : List ℕ) → acts_in_its_view n ≡ true → letters.HasOwnSend n req body
      → says.SendSays v s n.core.who n.core.promise (nodes.own_report_of n) req body
  sends_own to req body t has_it = subst (λ j. says.SendSays v s j n.core.promise (nodes.own_report_of n) req body) (sym h.who)
      (record { reports = reports t; asked = h.sends.own req body has_it })

  sequencer : is_sequencer n ≡ true → says.SequencerSays s i n.core.promise n.core.acc
  sequencer t = sequencer_accepts_what_group_has v i n s (speaks_leading t) t h.fronts

  -- who leads, or heard a Fetch, hasn't just begun its list
  start_leading : is_sequencer n ≡ true → n.core.log.start ≤ m.core.base
  start_leading t = elim h.start [
    | as_before low ↦ low
    | just_begun follows asked ↦ absurd (let z = sym t ∙ follows in cc)
  ]

  start_asked : (from stored : ℕ) (u : Stamp) → c ≡ hears (Packet.Fetch from u stored) → n.core.log.start ≤ m.core.base
  start_asked from stored u is = elim h.start [
    | as_before low ↦ low
    | just_begun follows asked ↦ absurd (asked from stored u is)
  ]

  numbered : (number : ℕ) (e : Entry) → is_sequencer n ≡ true → letters.EntryStands n.core.log m.core.base number e
      → says.EntrySays s i n.core.promise n.core.acc number e
  numbered number e t at = sent_entry_says_so v i n s m.core.base number e (speaks_leading t) t h.fronts (start_leading t) at

  -- a Fetch for its own promise, and one for a ballot of its own
  fetched : (to : List ℕ) → MayFetch m n to → FetchSays s i n.core.promise to
  fetched to (of_promise other is) = says.of_promise
      (λ same. eqb-false n.core.promise.by n.core.who other (same ∙ sym h.who))
      (λ j in_. only_name_has_just_itself n.core.promise.by j (ap (λ set. has set j) (sym is) ∙ in_))
  fetched to (for_ballot b open_ from want answer is) =
      let known = h.ballots.fetches b from want open_ answer in
      says.for_ballot known.0 (λ j in_. subst (AllShown s n.core.promise) (sym (only_name_has_just_itself from j (ap (λ set. has set j) (sym is) ∙ in_))) known.1)

  -- a View of its own
  told_result : (number : ℕ) (names : List ℕ) → number ≡ (nodes.image_of_node n).view_number → members_of_view_entry (log_entry_at n.core.log number) ≡ names → MayTellResult n
      → n.core.promise.by ≡ i → ResultSays s i number (record { stamp = n.core.promise; members = names; resilience = (nodes.image_of_node n).resilience })
  told_result number names is viewed may mine =
      let member = logged_member (elim may [
        | leads t ↦ member_status_has_log n.status (acting_member n (leading_acts n t))
        | decided b number names there answer at ↦ h.ballots.blank b there
      ]) in
      let t = teller_of_own_promise_leads n member may h.ballots.own (mine ∙ sym h.who) in
      let l = sequencer_leads_its_line v i n s (speaks_leading t) t in
      let noted = h.views.decided (key_of_stamp n.core.promise) l.decided in
      let k = h.views.noted noted.index noted.view noted.there in
      let same : noted.view.stamp ≡ n.core.promise = stamps_of_equal_keys noted.view.stamp n.core.promise (h.noted noted.index noted.view noted.there) h.small noted.is in
      result_said v i number n names s (speaks_leading t) t
      (subst (λ (u : Stamp). (s.views.chosen (key_of_stamp u)).stamp ≡ u) same k.stamp)
      (subst (λ (u : Stamp). IsBeginningOf (list_with_chosen_view (s.views.chosen (key_of_stamp u))) (s.views.line (key_of_stamp u))) same k.opens)
      (h.leader t).viewed is viewed

  -- what is sent of its list
  piece_log : (number : ℕ) (e : Entry) → letters.EntryStands n.core.log m.core.base number e → is_member n.status ≡ true
  piece_log number e at = logged_member (split_on_bool (has_log_by_status n.status) (λ t. t) (λ f. absurd (
      let none = ap length ((h.group.kept.each i).blank (h.stands.log_ ∙ f)) in
      let long = length_of_whole_list v i n (s.node i) h.stands in
      let some = slice_get_within n.core.log.entries at.index e at.there in
      omega arith)))

  pieced : (from : ℕ) (u : Stamp) (stored number : ℕ) (e : Entry) → c ≡ hears (Packet.Fetch from u stored) → may_fetch n from u ≡ true
      → letters.EntryStands n.core.log m.core.base number e → MovesLeadTo (PieceSaysWhatIsShown i number n e s) s
  pieced from u stored number e is may at =
      let member = piece_log number e at in
      let both = both_of_and (stamps_are_equal u n.core.promise) ((u.by == from) || ((u.by == n.core.who) && stamps_are_equal (view n) u)) may in
      let promise : u ≡ n.core.promise = stamp_eq_gives_equality u n.core.promise both.0 in
      split_on_bool (u.by == from)
      (λ t.
      let by : n.core.promise.by ≡ from = ap (λ (x : Stamp). x.by) (sym promise) ∙ eqb-true u.by from t in
      let asks = h.asked from stored u is in
      let asked = subst (λ (x : Stamp). FetchSays s from x asks.0) promise asks.2 in
      served_piece_of_shown_list v i from m.core.base number n e s asks.0 (speaks member) by (not_itself from asks.0 by asks.1 asked) asks.1 asked
      (start_asked from stored u is) at)
      (λ f.
      let rest : ((u.by == n.core.who) && stamps_are_equal (view n) u) ≡ true = rw f at both.1 in
      let own = both_of_and (u.by == n.core.who) (stamps_are_equal (view n) u) rest in
      let viewed : view n ≡ n.core.promise = stamp_eq_gives_equality (view n) u own.1 ∙ promise in
      let leads_ : is_sequencer n ≡ true = leads_own member viewed (ap (λ (x : Stamp). x.by) (sym promise) ∙ eqb-true u.by n.core.who own.0) in
      record {
        to = s;
        path = none;
        is = record {
          same = record { node = refl; views = refl; group_ = refl };
          says = sent_piece_says_so v i n s m.core.base number e
              (speaks member) leads_ (start_asked from stored u is) at;
        };
      })
    where
      leads_own : is_member n.status ≡ true → view n ≡ n.core.promise → n.core.promise.by ≡ n.core.who → is_sequencer n ≡ true
      leads_own member viewed mine =
          let a : stamps_are_equal n.core.promise (view n) ≡ true = subst (λ x. stamps_are_equal n.core.promise x ≡ true) (sym viewed) (stamp_eq_of_itself n.core.promise) in
          let b : ((view n).by == n.core.who) ≡ true = (let z = ap (λ (x : Stamp). x.by) viewed ∙ mine in grind (arith, nat_tests)) in
          rw (member, a, b) refl

      -- nobody fetches from stamp_itself
      not_itself : (from : ℕ) (to : List ℕ) → n.core.promise.by ≡ from → has to i ≡ true → FetchSays s from n.core.promise to → from ≢ i
      not_itself from to by in_ (says.for_ballot own all) same =
          let known = all i in_ in
          let ok = h.group.kept.shown (key_of_stamp n.core.promise) i known.list known.shown in
          let its = equal_keys_have_equal_names ok.stamp n.core.promise ok.small h.small ok.is in
          ok.other (its ∙ by ∙ same)
      not_itself from to by in_ (says.of_promise other all) same = other by

-- ---- each letter

-- its view is of a name
view_named : (v : World) (i : ℕ) (c : Cause) (m n : Node) (s : Group) → Sender v i c m n s → (view n).by < 256
unfolding stamp_of_list
view_named v i c m n s h =
    let same : stamp_of_list (s.node i).list ≡ view n = ap (λ (x : Image). x.view) (image_of_whole_list v i n (s.node i) h.stands) in
    subst (λ (u : Stamp). u.by < 256) same (split_on_bool (s.node i).has_log
    (λ t. name_of_view_is_byte (s.node i).list (beginning_of_good_is_good ((h.group.kept.each i).list (record { log = t; there = h.there })) h.group.kept.views.good))
    (λ f. subst (λ l. (stamp_of_list l).by < 256) (sym ((h.group.kept.each i).blank f)) (subst (λ (u : Stamp). u.by < 256) (sym view_of_nil) (omega arith))))

trimmed_same : (s t : Group) (base : ℕ) → ShowsMore s t → says.Trimmed s base → says.Trimmed t base
trimmed_same s t base same h = record {
  accepted = subst (λ l. base ≤ length l) (sym same.group_) h.accepted;
  stored = λ j. subst (λ (f : ℕ → groups.ChainNode). IsThere (f j) → (f j).leaving ≡ false → is_member_at_end (take base t.group) j ≡ true
      → IsBeginningOf (take base t.group) (f j).list) (sym same.node)
      (subst (λ l. IsThere (s.node j) → (s.node j).leaving ≡ false → is_member_at_end (take base l) j ≡ true → IsBeginningOf (take base l) (s.node j).list) (sym same.group_)
      (h.stored j));
}

pub sent_letters_say_so : SentSays
sent_letters_say_so v i c m n s to p h (request _ req body a f has_it) = so v i c m n s h to _ (sends_own v i c m n s h to req body a has_it)
sent_letters_say_so v i c m n s to p h (spread _ req body a f has_it) = so v i c m n s h to _ (sends_own v i c m n s h to req body a has_it)
sent_letters_say_so v i c m n s to p h (bcast _ number e t at) = so v i c m n s h to _
    (h.trimmed, subst (λ j. says.EntrySays s j n.core.promise n.core.acc number e) (sym h.who) (numbered v i c m n s h number e t at))
sent_letters_say_so v i c m n s to p h (order _ number from req u report body is t at) = so v i c m n s h to _ (
  h.trimmed,
  subst (λ j. says.OrderSays v s j n.core.promise n.core.acc number from req) (sym h.who)
      (record { body = body; entry = numbered v i c m n s h number (Data from req body) t at; asked = h.sends.numbered at.index from req body at.there }),
)
sent_letters_say_so v i c m n s to p h (accept _ poll t) = so v i c m n s h to _
    (h.trimmed, subst (λ j. says.SequencerSays s j n.core.promise n.core.acc) (sym h.who) (sequencer v i c m n s h t))
sent_letters_say_so v i c m n s to p h (ack _ a) = so v i c m n s h to _
    (subst (λ j. says.ReportSays s j n.core.promise (nodes.own_report_of n)) (sym h.who) (reports v i c m n s h a))
sent_letters_say_so v i c m n s to p h (nack _ a) = so v i c m n s h to _
    (subst (λ j. says.ReportSays s j n.core.promise (nodes.own_report_of n)) (sym h.who) (reports v i c m n s h a))
sent_letters_say_so v i c m n s to p h (welcome name t may) =
    let good = beginning_of_good_is_good ((h.group.kept.each i).list (speaks_leading v i c m n s h t).up) h.group.kept.views.good in
    let is = welcomed_name_is_accepted_member v i m n (s.node i) name h.stands good h.lives (start_leading v i c m n s h t) h.numbers.accepted may in
    so v i c m n s h (set_of_one_name name) _ (
      h.trimmed,
      λ j in_.
          subst (λ k. says.WelcomeTo s k n.core.promise n.core.base (row_of_name (nodes.image_of_node n) name).joined (log_image_at n.core.log n.core.base) j) (sym h.who)
          (sent_welcome_says_so v i n s name (speaks_leading v i c m n s h t) t h.fronts h.numbers.kept (omega arith) is h.trimmed j in_),
    )
sent_letters_say_so v i c m n s to p h (leave_ask _ member leaves) = so v i c m n s h to _
    (subst (λ j. says.LeaverSays s j n.core.promise (nodes.own_report_of n)) (sym h.who) (sent_leaver_report_says_so v i n s (speaks v i c m n s h member) leaves))
sent_letters_say_so v i c m n s to p h (gone name t may) =
    let l = h.leader t in
    let base = h.numbers.base in
    so v i c m n s h (set_of_one_name name) _ (sent_gone_says_so v i n s name (record {
      speaks = speaks_leading v i c m n s h t;
      leads = t;
      fronts = h.fronts;
      kept = h.numbers.kept;
      base = omega arith;
      within = h.numbers.within;
      names = l.names;
      reports = l.reports;
      trimmed = h.trimmed;
      left_out = h.group.left_out;
    }) may)
sent_letters_say_so v i c m n s to p h (vote from u is) =
    let taken = h.numbers.taken in
    let r = voter_shows_what_it_says v i n s (record { kept = h.group.kept; stands = h.stands; there = h.there; small = h.small; begun = h.begun; taken = omega arith }) in
    search (r.to, r, view_named v i c m n s h, subst (λ j. says.VoteSays r.to j n.core.promise (own_vote n)) (sym h.who) r.is.says)
sent_letters_say_so v i c m n s to p h (fetch _ may) = so v i c m n s h to _ (subst (λ j. FetchSays s j n.core.promise to) (sym h.who) (fetched v i c m n s h to may))
sent_letters_say_so v i c m n s to p h (piece from u stored number e is may at) =
    let r = pieced v i c m n s h from u stored number e is may at in
    search (
      r.to,
      r,
      trimmed_same s r.to n.core.base r.is.same h.trimmed,
      subst (λ j. says.PieceSays r.to j n.core.promise number e)
          (sym h.who) r.is.says,
    )
sent_letters_say_so v i c m n s to p h (result _ number names is viewed may) = so v i c m n s h to _ (
  h.trimmed,
  λ mine. subst (λ j. ResultSays s j number (record { stamp = n.core.promise; members = names; resilience = (nodes.image_of_node n).resilience })) (sym h.who)
      (told_result v i c m n s h number names is viewed may (mine ∙ h.who)),
)
sent_letters_say_so v i c m n s to p h _ = so v i c m n s h to p tt
