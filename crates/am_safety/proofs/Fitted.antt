-- Up to its lawful front each node of a run has room for a View that leaves somebody out.
use Rattle.am_lawful_runs.proofs.Words.{eqb-true, not_view, stamp_eq_gives_equality, le_or_gt, ◌≡◌, ◌⊎◌, either, inl, inr, ℕ, zero, suc, ◌+◌, ◌-◌, ◌<◌, ◌≤◌, ◌==◌, true}
use Rattle.am_lawful_runs.proofs.Words.{false, List, [], ◌∷◌, ◌++◌, length, take, Some, slice_get, sym, ap, ◌∙◌, subst, arith, length-map, Entry, Data, View}
use Rattle.am_lawful_runs.proofs.Words.{GroupView, Stamp, Rules, MayFound, has, size, top_of_log, image_of_log, member_life_of_row, members_of_image, log_members_at, CoreState, stamps_are_equal}
use Rattle.am_lawful_runs.proofs.Words.{Packet, Letter, Event, item_at, IsBeginningOf, stamp_of_list, key_of_stamp, equal_keys_have_equal_names, view_stays_by_pushed_non_view, view_after_pushed_view, image_has_sixteen_rows, shorter_beginning_begins_longer}
use Rattle.am_lawful_runs.proofs.Words.{beginning_is_no_longer, begins_push_next_entry, begins_through_both, Group, IsUp, is_unfinished_ballot, Node, top, view, is_member, acts_in_its_view, founder}
use Rattle.am_lawful_runs.proofs.Words.{founders_entry, has_departed, StepResult, member_hears_other, hears_packet_of_its_view, hears_packet_of_sequencer, packet_heard_by_act, FitsView, ViewsFit}
use Rattle.am_lawful_runs.proofs.Words.{lawful_front, World, start, world_with_step, run, split_on_bool, both_of_and, front_is_lawful, Cause, hears, Says, bcast, order, piece}
use Rattle.am_lawful_runs.proofs.Words.{result, LetterSays, IsCause, WasSentTo, item_of_index_has_property, member_status_has_log, number_bounds_hold_in_runs, each_node_trims_only_taken, heard_welcome_image_is_used, run_trims_only_taken, heard_stamps_have_names}
use Rattle.am_lawful_runs.proofs.Words.{lists_only_grow_in_runs, item_at_is_slice_get, item_at_number_is_within, PacketSays, image_of_whole_list, length_of_whole_list, view_number_le_length, departed_nodes_are_silent, departed_step_sends_no_letters}
use Rattle.am_lawful_runs.proofs.Words.{departed_status_is_departed, steps_are_group_moves, member_has_not_departed}
use Rattle.am_base.specs.Whole.{image_of_list}
use Rattle.am_model.specs.Node as nodes
use Rattle.am_model.specs.Hearing as rows
use Rattle.am_refinement.specs.Letters as says
use Rattle.am_safety.proofs.Rows.{NodeStoresNextEntry, RowStoresOrKeeps, OrderStoresOrKeeps, EntryHeardInView, PieceMayBeStored, WasFetchedInView, ResultMayBeStored, bcast_stores_or_keeps, order_row_stores_or_keeps, piece_stores_or_keeps, result_stores_or_keeps, hearing_ends_its_row}
use Rattle.am_safety.proofs.Views.{NumberFitsInList, number_fits_in_longer_list, number_fits_in_beginning, number_fits_up_to_base, node_number_fits_in_list, NumberFitsInLine, PieceFitsInLine, of_line, of_shown, over, PacketFitsInLine, packet_fits_in_grown_group}
use Rattle.am_safety.proofs.Views.{promised_list_begins_line, list_begins_line_of_view, list_with_stored_entry_begins, stored_entry_number_fits_line}
use Rattle.am_lawful_runs.proofs.OneStep.{OneStepWithGroup, parts_of_one_step, one_step_grows_group}
use Rattle.am_lawful_runs.proofs.Fold.{PropertyIsKeptByRuns}
use Rattle.am_lawful_runs.proofs.Begun.{group_follows_unbroken_run}
use Rattle.am_safety.proofs.Fits.{CauseBringsEntry, by_bcast, by_order}
use Rattle.am_safety.proofs.Fits.{by_piece, by_result, EntryFitsAboveBase, set_size_le_length, entries_fit_after_change}
use Rattle.am_safety.proofs.Heard.{whole_packet}
use Rattle.am_safety.proofs.Heard.{too_short, stepped_node_heard_packet, sender_has_not_departed}
use Rattle.am_safety.proofs.Rows as done
use Rattle.am_lawful_runs.proofs.Spared.{LawfulUntilLastStop, group_follows_until_last_stop}

-- ---- what is kept

record Fitted (rules : Rules) (w : World) (s : Group) : Type 0 where
  pub nodes : (i : ℕ) → FitsView rules (w.nodes i)
  pub letters : (k : ℕ) (letter : Letter) → slice_get w.letters k ≡ Some letter → PacketFitsInLine rules s letter.packet

pub letter_at_item_has_index : (letters : List Letter) (number : ℕ) (l : Letter) → item_at letters number ≡ Some l → (k : ℕ) × (slice_get letters k ≡ Some l)
letter_at_item_has_index letters zero l h = absurd (cc)
letter_at_item_has_index letters (suc k) l h = (k, h)

get_either : {A : Type 0} (xs ys : List A) (k : ℕ) (x : A) → slice_get (xs ++ ys) k ≡ Some x → (slice_get xs k ≡ Some x) ⊎ ((j : ℕ) × (slice_get ys j ≡ Some x))
get_either [] ys k x h = inr (k, h)
get_either (y ∷ xs) ys zero x h = inl h
get_either (y ∷ xs) ys (suc k) x h = get_either xs ys k x h

push_some : (a : List Entry) (e : Entry) → a ++ e ∷ [] ≡ [] → ⊥
push_some [] e h = cc
push_some (x ∷ a) e h = cc

-- the view in which it heard the sequencer
in_view : (m : Node) (s : ℕ) (v : Stamp) → hears_packet_of_sequencer m s v ≡ true → v ≡ view m
in_view m s v t =
    let a = (both_of_and (hears_packet_of_its_view m s v) (v.by == s) t).0 in
    let b = (both_of_and (member_hears_other m s) _ a).1 in
    stamp_eq_gives_equality v (view m) (both_of_and (acts_in_its_view m) (stamps_are_equal v (view m)) b).1

-- ---- a step

module _ (rules : Rules) (events : List Event) (e : Event) (c : Cause) (step : StepResult) (s t : Group) (one : OneStepWithGroup rules events e c step s t)
    (h : Fitted rules (run rules events) s) where
  open parts_of_one_step rules events e step use {w, i, m, n, v}
  open one use {step_.{may, runs, cause, effect, is}, old, grows, shaped, new}
  open one_step_grows_group one use {few, kept_s, kept_t, opens_t, runs_v, node_run, stands_m, stands_n, group_grows}

  order_n : n.core.log.start ≤ n.core.base
  order_n = subst (λ (x : Node). x.core.log.start ≤ x.core.base) node_run ((number_bounds_hold_in_runs rules (events ++ e ∷ [])).each i).kept

  -- where the list is as it was
  fits_still : (number : ℕ) → n.core.log ≡ m.core.log → m.core.base ≤ n.core.base → n.core.base < number → number ≤ top n → EntryFitsAboveBase rules n number
  fits_still number log up above within =
      let high = ap (λ l. top_of_log l) log in
      let f = (h.nodes i).each number (omega arith) (omega arith) in
      let same = ap (λ l. size (log_members_at l number)) log in
      omega arith

  -- where an entry of a line was stored
  fits_line : (number base : ℕ) (u : Stamp) (x : Entry) (row : Node) → n.core.log ≡ row.core.log → row.core.base ≤ n.core.base → n.core.base < number
      → NodeStoresNextEntry m row base number x → NumberFitsInLine rules s u base number → IsBeginningOf ((s.node i).list ++ x ∷ []) (t.views.line (key_of_stamp u)) → EntryFitsAboveBase rules n number
  fits_line number base u x row log up above st line its =
      let mine = list_with_stored_entry_begins w v s t i m n row base number x stands_m stands_n group_grows log st in
      let long = length_of_whole_list w i m (s.node i) stands_m in
      let start = order_n in
      stored_entry_number_fits_line rules v t i base number n (s.node i).list (t.views.line (key_of_stamp u)) x stands_n (omega arith) (omega arith) (omega arith) mine its
      (number_fits_in_longer_list rules (s.views.line (key_of_stamp u)) (t.views.line (key_of_stamp u)) base number (grows.lines (key_of_stamp u) line.decided) line.fits)

  -- the line of the view in which an entry ends the list
  on_last : (base number : ℕ) (u : Stamp) (x : Entry) (row : Node) → n.core.log ≡ row.core.log → NodeStoresNextEntry m row base number x
      → stamp_of_list ((s.node i).list ++ x ∷ []) ≡ u → IsBeginningOf ((s.node i).list ++ x ∷ []) (t.views.line (key_of_stamp u))
  on_last base number u x row log st viewed =
      let mine = list_with_stored_entry_begins w v s t i m n row base number x stands_m stands_n group_grows log st in
      subst (λ y. IsBeginningOf ((s.node i).list ++ x ∷ []) (t.views.line (key_of_stamp y))) viewed
      (list_begins_line_of_view t i ((s.node i).list ++ x ∷ []) shaped opens_t (push_some (s.node i).list x) mine)

  view_m : stamp_of_list (s.node i).list ≡ view m
  unfolding stamp_of_list
  view_m = ap (λ g. g.view) (image_of_whole_list w i m (s.node i) stands_m)

  plain_view : (from : ℕ) (u : Stamp) (x : Entry) → EntryHeardInView m from u x → stamp_of_list ((s.node i).list ++ x ∷ []) ≡ u
  plain_view from u x why = view_stays_by_pushed_non_view (s.node i).list x (not_view x why.plain) ∙ view_m ∙ sym (in_view m from u why.heard)

  sent_so : (p : Packet) → c ≡ hears p → WasSentTo w i e.act p
  sent_so p says_ = subst (IsCause w i e.act) says_ cause

  packet_fits : (p : Packet) → WasSentTo w i e.act p → PacketFitsInLine rules s p
  packet_fits p sent =
      let there = letter_at_item_has_index w.letters (packet_heard_by_act e.act) sent.letter sent.there in
      subst (PacketFitsInLine rules s) sent.is (h.letters there.0 sent.letter there.1)

  -- by what was heard
  module _ (p : Packet) (heard_ : c ≡ hears p) (number : ℕ) (above : n.core.base < number) (within : number ≤ top n) where
    abbrev row : Node
    row = (rows.hear_row m p).node

    -- nothing was stored, or the row tells it
    by_row : ((n.core.log ≡ row.core.log) → row.core.base ≤ n.core.base → EntryFitsAboveBase rules n number) → EntryFitsAboveBase rules n number
    by_row f = elim (stepped_node_heard_packet w e step p (sent_so p heard_) runs is) [
      | too_short log up ↦ fits_still number log up above within
      | whole_packet same ↦
          let r = hearing_ends_its_row m p in
          let base = ap (λ (x : Node). x.core.base) same in
          f (ap (λ (x : Node). x.core.log) same ∙ r.log) (omega arith)
    ]

  fits_bcast : (from : ℕ) (u : Stamp) (base acc number : ℕ) (x : Entry) → c ≡ hears (Packet.Bcast from u base acc number x) → n.core.base < number
      → number ≤ top n → EntryFitsAboveBase rules n number
  fits_bcast from u base acc number x heard_ above within =
      let p = Packet.Bcast from u base acc number x in
      let line = packet_fits p (sent_so p heard_) in
      by_row p heard_ number above within (λ log up. elim (bcast_stores_or_keeps m from u base acc number x) [
        | done.nothing same low ↦ fits_still number (log ∙ same) (omega arith) above within
        | done.one why st ↦
            let r = (rows.hear_row m (Packet.Bcast from u base acc number x)).node in
            fits_line number base u x r log up above st line (on_last base number u x r log st (plain_view from u x why))
      ])

  fits_order : (from : ℕ) (u : Stamp) (base acc number by req : ℕ) → c ≡ hears (Packet.Order from u base acc number by req) → n.core.base < number
      → number ≤ top n → EntryFitsAboveBase rules n number
  fits_order from u base acc number by req heard_ above within =
      let p = Packet.Order from u base acc number by req in
      let line = packet_fits p (sent_so p heard_) in
      by_row p heard_ number above within (λ log up. elim (order_row_stores_or_keeps m from u base acc number by req) [
        | done.nothing same low ↦ fits_still number (log ∙ same) (omega arith) above within
        | done.one body why st ↦
            let r = (rows.hear_row m (Packet.Order from u base acc number by req)).node in
            let x = Data by req body in
            fits_line number base u x r log up above st line (on_last base number u x r log st (plain_view from u x why))
      ])

  fits_result : (from : ℕ) (base number : ℕ) (u : GroupView) → c ≡ hears (Packet.Result from base number u)
      → n.core.base < number → number ≤ top n → EntryFitsAboveBase rules n number
  fits_result from base number u heard_ above within =
      let p = Packet.Result from base number u in
      let line = packet_fits p (sent_so p heard_) in
      by_row p heard_ number above within (λ log up. elim (result_stores_or_keeps m from base number u) [
        | done.nothing same low ↦ fits_still number (log ∙ same) (omega arith) above within
        | done.one why st ↦
            let r = (rows.hear_row m (Packet.Result from base number u)).node in
            let x = View u in
            fits_line number base u.stamp x r log up above st (line (eqb-true u.stamp.by from why.by))
            (on_last base number u.stamp x r log st (view_after_pushed_view (s.node i).list u))
      ])

  -- ---- a Piece

  up_s : is_member m.status ≡ true → IsUp (s.node i)
  up_s member = record {
    log = stands_m.log_ ∙ member_status_has_log m.status member;
    there = record { goes = stands_m.stopped ∙ runs; stays = stands_m.departed ∙ member_has_not_departed m.status member };
  }

  module _ (from : ℕ) (u : Stamp) (base number : ℕ) (x : Entry) (row : Node) (log : n.core.log ≡ row.core.log) (up : row.core.base ≤ n.core.base)
      (above : n.core.base < number) (why : PieceMayBeStored m from u) (st : NodeStoresNextEntry m row base number x) where
    member : is_member m.status ≡ true
    member = (both_of_and _ (is_member m.status) why.member).1

    promise : u ≡ (s.node i).promise
    promise = stamp_eq_gives_equality u m.core.promise why.promise ∙ sym stands_m.promise

    number_is : number ≡ length (s.node i).list + 1
    number_is = let a = st.next in let b = length_of_whole_list w i m (s.node i) stands_m in omega arith

    next_item : (list : List Entry) → item_at list number ≡ Some x → slice_get list (length (s.node i).list) ≡ Some x
    next_item list at = item_at_is_slice_get list number (length (s.node i).list) x number_is at

    piece_line : NumberFitsInLine rules s u base number → item_at (s.views.line (key_of_stamp u)) number ≡ Some x → EntryFitsAboveBase rules n number
    piece_line line at =
        let d : s.views.decided (key_of_stamp (s.node i).promise) ≡ true = ap (λ y. s.views.decided (key_of_stamp y)) (sym promise) ∙ line.decided in
        let on = promised_list_begins_line s i kept_s (up_s member) d in
        let on_u : IsBeginningOf (s.node i).list (s.views.line (key_of_stamp u)) = subst (λ y. IsBeginningOf (s.node i).list (s.views.line (key_of_stamp y))) (sym promise) on in
        let its = begins_push_next_entry x on_u (next_item (s.views.line (key_of_stamp u)) at) in
        fits_line number base u x row log up above st line (begins_through_both its (grows.lines (key_of_stamp u) line.decided))

    -- a ballot of its own
    piece_shown : (list : List Entry) → s.shown (key_of_stamp u) from ≡ Some list → s.served (key_of_stamp u) from ≡ true → item_at list number ≡ Some x
        → NumberFitsInList rules list base number → is_unfinished_ballot m.ballot ≡ true → EntryFitsAboveBase rules n number
    piece_shown list shown served at fit open_ =
        let ballot : (s.node i).ballot ≡ true = stands_m.ballot ∙ open_ in
        let served_ : s.served (key_of_stamp (s.node i).promise) from ≡ true = ap (λ y. s.served (key_of_stamp y) from) (sym promise) ∙ served in
        let shown_ : s.shown (key_of_stamp (s.node i).promise) from ≡ Some list = ap (λ y. s.shown (key_of_stamp y) from) (sym promise) ∙ shown in
        let chain = (kept_s.served i from list (up_s member) ballot served_ shown_).chain in
        let mine = (kept_s.each i).list (up_s member) in
        let within = item_at_number_is_within list number x at in
        let is_ = number_is in
        let part : IsBeginningOf (s.node i).list list = shorter_beginning_begins_longer mine chain (let z = within.1 in omega arith) in
        let its = begins_push_next_entry x part (next_item list at) in
        let goes = list_with_stored_entry_begins w v s t i m n row base number x stands_m stands_n group_grows log st in
        let start = order_n in
        stored_entry_number_fits_line rules v t i base number n (s.node i).list list x stands_n (omega arith) number_is (omega arith) goes its fit

    own_shown : (list : List Entry) → s.shown (key_of_stamp u) from ≡ Some list → u.by ≡ from → ⊥
    own_shown list shown same =
        let k = kept_s.shown (key_of_stamp u) from list shown in
        let small : u.by < 256 = subst (λ (y : Stamp). y.by < 256) (sym promise) (kept_s.each i).small in
        k.other (equal_keys_have_equal_names k.stamp u k.small small k.is ∙ same)

    none_over : s.views.decided (key_of_stamp u) ≡ true → is_unfinished_ballot m.ballot ≡ true → ⊥
    none_over d open_ =
        let ballot : (s.node i).ballot ≡ true = stands_m.ballot ∙ open_ in
        let above_ = ((kept_s.each i).ballot (up_s member) ballot).above in
        let most = kept_s.views.order (key_of_stamp u) d in
        let same = ap key_of_stamp promise in
        omega arith

    piece_so : PieceFitsInLine rules s from u base number x → WasFetchedInView m from u → EntryFitsAboveBase rules n number
    piece_so (of_line line at) how = piece_line line at
    piece_so (of_shown list shown served at fit) (done.without none by) = absurd (own_shown list shown (eqb-true u.by from by))
    piece_so (of_shown list shown served at fit) (done.for_ballot open_) = piece_shown list shown served at fit open_
    piece_so (over other d) (done.without none by) = absurd (other (eqb-true u.by from by))
    piece_so (over other d) (done.for_ballot open_) = absurd (none_over d open_)

  fits_piece : (from : ℕ) (u : Stamp) (base number : ℕ) (x : Entry) → c ≡ hears (Packet.Piece from u base number x) → n.core.base < number
      → number ≤ top n → EntryFitsAboveBase rules n number
  fits_piece from u base number x heard_ above within =
      let p = Packet.Piece from u base number x in
      let line = packet_fits p (sent_so p heard_) in
      by_row p heard_ number above within (λ log up. elim (piece_stores_or_keeps m from u base number x) [
        | done.nothing same low ↦ fits_still number (log ∙ same) (omega arith) above within
        | done.one why st ↦
            piece_so from u base number x (rows.hear_row m (Packet.Piece from u base number x)).node log up above why st line why.how
      ])

  -- ---- the node

  node_now : FitsView rules n
  node_now = record {
    each = λ number above within.
        (let owned = run_trims_only_taken rules events may in
        let names = heard_stamps_have_names rules w e c owned.blanks.base cause in
        let used = heard_welcome_image_is_used rules w e c owned cause in
        let all = entries_fit_after_change rules c step.outcome m n names used effect.changes (each_node_trims_only_taken rules w i few owned)
        (λ k high low. inl ((h.nodes i).each k high low)) number above within in
        either all (λ f. f) (λ b. by_packet number b above within));
  }
    where
      by_packet : (number : ℕ) → CauseBringsEntry c number → n.core.base < number → number ≤ top n → EntryFitsAboveBase rules n number
      by_packet number (by_bcast from u base acc x heard_) above within = fits_bcast from u base acc number x heard_ above within
      by_packet number (by_order from u base acc by req heard_) above within = fits_order from u base acc number by req heard_ above within
      by_packet number (by_piece from u base x heard_) above within = fits_piece from u base number x heard_ above within
      by_packet number (by_result from base u heard_) above within = fits_result from base number u heard_ above within

  -- ---- its letters

  abbrev x : Node
  x = effect.sender

  core_x : n.core ≡ x.core
  core_x = ap (λ (y : Node). y.core) effect.is

  own_fit : (number : ℕ) → n.core.base < number → number ≤ top n → NumberFitsInList rules (t.node i).list n.core.base number
  own_fit number above within =
      let start = order_n in
      node_number_fits_in_list rules v i number n (t.node i) stands_n (omega arith) within (node_now.each number above within)

  -- who has an entry is up, if it hasn't departed
  up_n : has_departed n.status ≡ false → (number : ℕ) → n.core.base < number → number ≤ top n → IsUp (t.node i)
  up_n stays number above within = record {
    log = split_on_bool (t.node i).has_log (λ y. y)
        (λ f. absurd (let nil = ap length ((kept_t.each i).blank f) in let long = length_of_whole_list v i n (t.node i) stands_n in omega arith));
    there = record { goes = stands_n.stopped ∙ runs_v; stays = stands_n.departed ∙ stays };
  }

  -- of who is up, an entry of its list fits the line of its promise
  sent_line : has_departed n.status ≡ false → (number : ℕ) → number ≤ top x → number ≤ length (t.views.line (key_of_stamp x.core.promise))
      → t.views.decided (key_of_stamp x.core.promise) ≡ true → NumberFitsInLine rules t x.core.promise x.core.base number
  sent_line stays number within long d = subst (λ (q : CoreState). NumberFitsInLine rules t q.promise q.base number) core_x
      (own_line (subst (λ (q : CoreState). number ≤ top_of_log q.log) (sym core_x) within)
      (subst (λ (q : CoreState). number ≤ length (t.views.line (key_of_stamp q.promise))) (sym core_x) long)
      (subst (λ (q : CoreState). t.views.decided (key_of_stamp q.promise) ≡ true) (sym core_x) d))
    where
      own_line : number ≤ top n → number ≤ length (t.views.line (key_of_stamp n.core.promise)) → t.views.decided (key_of_stamp n.core.promise) ≡ true
          → NumberFitsInLine rules t n.core.promise n.core.base number
      own_line within long d = record {
        decided = d;
        fits = either (le_or_gt number n.core.base)
            (λ low. number_fits_up_to_base rules (t.views.line (key_of_stamp n.core.promise)) n.core.base number low long)
            (λ above. subst (λ (y : Stamp). NumberFitsInList rules (t.views.line (key_of_stamp y)) n.core.base number) stands_n.promise
            (number_fits_in_longer_list rules (t.node i).list (t.views.line (key_of_stamp (t.node i).promise)) n.core.base number
            (promised_list_begins_line t i kept_t (up_n stays number above within) (ap (λ y. t.views.decided (key_of_stamp y)) stands_n.promise ∙ d))
            (own_fit number above within)));
      }

  -- a list that it showed
  shown_fit : (list : List Entry) (u : Stamp) (number : ℕ) (en : Entry) → t.shown (key_of_stamp u) i ≡ Some list → item_at list number ≡ Some en
      → NumberFitsInList rules list x.core.base number
  shown_fit list u number en shown at = subst (λ (q : CoreState). NumberFitsInList rules list q.base number) core_x
      (let begins = (kept_t.shown (key_of_stamp u) i list shown).list in
      let low = item_at_number_is_within list number en at in
      let long = beginning_is_no_longer begins in
      let all = length_of_whole_list v i n (t.node i) stands_n in
      either (le_or_gt number n.core.base)
      (λ below. number_fits_up_to_base rules list n.core.base number below low.1)
      (λ above. number_fits_in_beginning rules list (t.node i).list n.core.base number begins low.1
      (own_fit number above (let z = low.1 in omega arith))))

  who_x : x.core.who ≡ i
  who_x = sym (ap (λ (q : CoreState). q.who) core_x) ∙ (lists_only_grow_in_runs rules events e c step may runs cause effect).own

  view_low : nodes.image_of_node x ≡ image_of_list (t.node i).list → (nodes.image_of_node x).view_number ≤ top x
  view_low same =
      let low = view_number_le_length (t.node i).list in
      let long = length_of_whole_list v i n (t.node i) stands_n in
      let number = ap (λ g. g.view_number) same in
      let high = ap (λ (q : CoreState). top_of_log q.log) core_x in
      omega arith

  packet_sent : has_departed n.status ≡ false → (to : List ℕ) (p : Packet) → Says m c x to p → PacketSays v t to p → PacketFitsInLine rules t p
  packet_sent stays to p (bcast _ number en leads at) h_ =
      let says_ = h_.1 in
      sent_line stays number at.within (item_at_number_is_within (t.views.line (key_of_stamp x.core.promise)) number en says_.stands).1 says_.sequencer.decided
  packet_sent stays to p (order _ number from req u report body heard_ leads at) h_ =
      let says_ = h_.1.entry in
      sent_line stays number at.within (item_at_number_is_within (t.views.line (key_of_stamp x.core.promise)) number (Data from req h_.1.body) says_.stands).1 says_.sequencer.decided
  packet_sent stays to p (piece from u stored number en heard_ may_ at) h_ = elim h_.1 [
    | says.of_line by d there ↦
        of_line (sent_line stays number at.within (item_at_number_is_within (t.views.line (key_of_stamp x.core.promise)) number en there).1 d) there
    | says.of_shown so ↦ of_shown so.list so.shown so.served so.stands
        (shown_fit so.list x.core.promise number en (ap (λ k. t.shown (key_of_stamp x.core.promise) k) (sym who_x) ∙ so.shown) so.stands)
    | says.over other d ↦ over other d
  ]
  packet_sent stays to p (result _ number names is_ viewed may_) h_ = λ by.
      (let says_ = h_.1 by in
      let same : nodes.image_of_node x ≡ image_of_list (t.node i).list = ap (λ (q : CoreState). image_of_log q.log) (sym core_x) ∙ sym (image_of_whole_list v i n (t.node i) stands_n) in
      sent_line stays number (let z = view_low same in omega arith)
      (item_at_number_is_within (t.views.line (key_of_stamp x.core.promise)) number _ says_.stands).1 says_.decided)
  packet_sent stays to p _ h_ = tt

  -- who sends something is there
  sender_there : (k : ℕ) (l : Letter) → slice_get step.letters k ≡ Some l → has_departed n.status ≡ false
  sender_there k l at = sender_has_not_departed m n step.letters k l effect.ending at (split_on_bool (has_departed m.status)
      (λ d. absurd (let none = departed_step_sends_no_letters w e step (departed_nodes_are_silent m (departed_status_is_departed m.status d) (old.gone i few d)) (sym is) in
      let got = ap (λ ls. slice_get ls k) (sym none) ∙ at in cc))
      (λ f. f))

  fitted_step : Fitted rules v t
  unfolding world_with_step
  fitted_step = record {
    nodes = λ j. split_on_bool (j == i) (λ y. rw y node_now) (λ f. rw f (h.nodes j));
    letters = λ k l at. either (get_either w.letters step.letters k l at)
        (λ was. packet_fits_in_grown_group rules s t l.packet grows (h.letters k l was))
        (λ now. packet_sent (sender_there now.0 l now.1) l.to l.packet (item_of_index_has_property (LetterSays m c x) step.letters now.0 l effect.letters now.1).says
        (new.letters k l at));
  }

-- ---- up to the lawful front

-- at the start there is one entry, and the window isn't empty
first_fits : (rules : Rules) (name number : ℕ) → MayFound rules → number ≤ top (founder rules name) → EntryFitsAboveBase rules (founder rules name) number
first_fits rules name number may within =
    let list = founders_entry rules ∷ [] in
    let rows = image_has_sixteen_rows (take (number - 0) list) in
    let count = length-map (image_of_list (take (number - 0) list)).rows member_life_of_row in
    let most = set_size_le_length (members_of_image (image_of_list (take (number - 0) list))) in
    omega arith

start_fits : (rules : Rules) → MayFound rules → (name : ℕ) → FitsView rules ((start rules).nodes name)
start_fits rules may name = split_on_bool (has rules.founders name)
    (λ t. rw t (record { each = λ number above within. first_fits rules name number may within }))
    (λ f. rw f (record { each = λ number above within. absurd (omega arith) }))

fitted_keeps : (rules : Rules) → PropertyIsKeptByRuns (Fitted rules) rules
fitted_keeps rules = record {
  by_step = λ {events = events} {e = e} {c = c} {step = step} {s = s} {t = t} x h. fitted_step rules events e c step s t x h;
  by_quiet = λ w v s t q h. record {
    nodes = λ i. subst (λ (f : ℕ → Node). FitsView rules (f i)) (sym q.stays.nodes) (h.nodes i);
    letters = λ k l at. packet_fits_in_grown_group rules s t l.packet q.grows (h.letters k l (ap (λ (ls : List Letter). slice_get ls k) (sym q.stays.letters) ∙ at));
  };
}

-- also further, while nobody stops
pub views_fit_until_last_stop : (rules : Rules) (events : List Event) (name : ℕ) → MayFound rules → LawfulUntilLastStop rules events → FitsView rules ((run rules events).nodes name)
views_fit_until_last_stop rules events name may until =
    (group_follows_until_last_stop (Fitted rules) rules (fitted_keeps rules) steps_are_group_moves may (λ t f. record { nodes = start_fits rules may; letters = λ k l at. absurd (cc) }) events until).is.nodes name

pub views_fit : ViewsFit
views_fit rules events name may =
    (group_follows_unbroken_run (Fitted rules) rules (fitted_keeps rules) steps_are_group_moves may (λ t f. record { nodes = start_fits rules may; letters = λ k l at. absurd (cc) })
    (lawful_front rules events) (front_is_lawful rules events)).is.nodes name
