-- The last member's own Leave is accepted as far as enough names hold it.
use Rattle.am_refinement.proofs.Words.{split_on_bool, ◌≡◌, ◌≢◌, ℕ, ◌+◌, ◌<◌, ◌≤◌, ◌==◌, ◌&&◌, not, max, nat_lt, Bool, true, false, List, [], ◌∷◌, ◌++◌, length, take, set}
use Rattle.am_refinement.proofs.Words.{get_or, slice_index, refl, sym, ap, ◌∙◌, subst, arith, nat_tests, length-append, length-map, get_or-set_other, Entry}
use Rattle.am_refinement.proofs.Words.{Leave, place_of_name, life_of_name, has, size, stamps_are_equal, member_life_of_row, members_of_image, image_of_log, CoreState, IsBeginningOf, image_of_list, is_member_at_end}
use Rattle.am_refinement.proofs.Words.{list_begins_itself, front_begins_append, begins_through_both, beginning_is_no_longer, shorter_beginning_begins_longer, taken_front_begins_list, length_of_taken_list, pushed_list_is_good, image_has_sixteen_rows}
use Rattle.am_refinement.proofs.Words.{Group, function_with_value, MayAccept, node_with_entry, GroupKeeps, put_at_same_index, put_keeps_property, Node, view, other_members, is_member, is_sequencer, push_entry, refresh}
use Rattle.am_refinement.proofs.Words.{refresh_at_end, Decided, World, list_with_accepted, list_after_step, views_after, occupied_place_counts_in_size, refresh_rests_with_list, settle_changes_only_sends, is_sequencer_after_rest}
use Rattle.am_refinement.proofs.Words.{is_sequencer_after_pushed_entry, view_of_pushed_plain_entry, leave_of_member_fits, NameStands, within, NeedsClose, after_closing, CountsNames, MayCount, CountsAmong}
use Rattle.am_refinement.proofs.Words.{ComesToBeforeEnd, ClosingAccepts, stamp_eq_of_itself}
use Rattle.am_abstract_group.specs.Group as groups
use Rattle.am_model.specs.Node as nodes
use Rattle.am_refinement.proofs.{Changes.same_node_keeps_name_standing, Changes.image_of_whole_list, Changes.running_member_is_up, Changes.refresh_is_same_to_group, Reporting.reports_true_with_plain_entry, Entries.longer_list_keeps_name_standing}
use Rattle.am_refinement.proofs.{Growing.line_of_leading_view, Sent.SpeaksForItsName, Sent.sequencer_leads_its_line, Accepting.refresh_accepts_held_entries, Learning.sequencer_view_is_its_own, Learning.grown_group_is_list_front}

-- ---- nobody else

-- who is left without one name
left_alone : (names : List ℕ) (who j : ℕ) → length names ≡ 16 → has names who ≡ true → has names j ≡ true → size (set names (place_of_name who) 0) ≡ 0 → j ≡ who
left_alone names who j long mine its none =
    let at : slice_index names (place_of_name j) ≡ life_of_name j = grind (arith, nat_tests) in
    let own : slice_index names (place_of_name who) ≡ life_of_name who = grind (arith, nat_tests) in
    split_on_bool (place_of_name j == place_of_name who)
    (λ t.
    let same : place_of_name j ≡ place_of_name who = grind (arith, nat_tests) in
    let life : life_of_name j ≡ life_of_name who = sym at ∙ ap (slice_index names) same ∙ own in
    omega arith)
    (λ f. absurd (
    let other : place_of_name j ≢ place_of_name who = (λ same. (let t : (place_of_name j == place_of_name who) ≡ true = grind (arith, nat_tests) in cc)) in
    let there : get_or (set names (place_of_name who) 0) (place_of_name j) 0 ≡ life_of_name j = get_or-set_other names (place_of_name who) (place_of_name j) 0 0 other ∙ at in
    let more = occupied_place_counts_in_size (set names (place_of_name who) 0) (place_of_name j) (omega arith) in
    omega arith))

alone : (v : World) (i : ℕ) (x : Node) (a : groups.ChainNode) → NameStands v i x a → x.core.who ≡ i → is_member_at_end a.list i ≡ true → nat_lt 0 (size (other_members x)) ≡ false
    → (j : ℕ) → is_member_at_end a.list j ≡ true → j ≡ i
unfolding is_member_at_end
alone v i x a stands who member none j its =
    let set_is : members_of_image (image_of_list a.list) ≡ nodes.members x = ap members_of_image (image_of_whole_list v i x a stands) in
    let mine : has (nodes.members x) x.core.who ≡ true = ap (has (nodes.members x)) who ∙ ap (λ set_. has set_ i) (sym set_is) ∙ member in
    let theirs : has (nodes.members x) j ≡ true = ap (λ set_. has set_ j) (sym set_is) ∙ its in
    let long : length (nodes.members x) ≡ 16 = ap length (sym set_is) ∙ length-map (image_of_list a.list).rows member_life_of_row ∙ image_has_sixteen_rows a.list in
    let rest : other_members x ≡ set (nodes.members x) (place_of_name x.core.who) 0 = rw mine refl in
    let nobody : size (other_members x) ≡ 0 = grind (arith, nat_tests) in
    left_alone (nodes.members x) x.core.who j long mine theirs (ap size (sym rest) ∙ nobody) ∙ who

-- ---- what is accepted then

-- from the group list on, or up to it where that is longer
up_to_group : (node : ℕ → groups.ChainNode) (list : List Entry) (from g to : ℕ) → from ≤ g → g ≤ length list → MayAccept node list from to
    → MayAccept node list g (max g to)
up_to_group node list from g to low some may =
    record {
      rises = omega arith;
      within = omega arith;
      held = λ n above below. (let m = may.held n (omega arith) (omega arith) in let up = m.2 in (m.0, m.1, omega arith, m.3));
    }

no_decision : (views : List Decided) (m n : Node) → view m ≡ view n → views_after views m n ≡ views
no_decision views m n same =
    let t : stamps_are_equal (view m) (view n) ≡ true = subst (λ u. stamps_are_equal (view m) u ≡ true) same (stamp_eq_of_itself (view m)) in
    let f : (is_member m.status && (((view n).by == n.core.who) && not (stamps_are_equal (view m) (view n)))) ≡ false = rw t
    (both_false (is_member m.status) ((view n).by == n.core.who)) in
    rw f refl
  where
    both_false : (a b : Bool) → (a && (b && not true)) ≡ false
    both_false true true = refl
    both_false true false = refl
    both_false false b = refl

module _ (w : World) (s : Group) (name heard : ℕ) (x : Node) (k : GroupKeeps s) (h : ComesToBeforeEnd w s name heard x) (few : name < 256) (t : is_sequencer x ≡ true)
    (sets : CountsNames (push_entry x (Leave x.core.who))) where
  abbrev a : groups.ChainNode
  a = s.node name

  abbrev e : Entry
  e = Leave x.core.who

  abbrev list : List Entry
  list = a.list ++ Leave name ∷ []

  abbrev p : Node
  p = push_entry x e

  abbrev among : ℕ → groups.ChainNode
  among = function_with_value s.node name (node_with_entry a (Leave name))

  speaks : SpeaksForItsName (within w name x) name x s
  speaks = record { kept = k; stands = h.stands; up = running_member_is_up w name x a h.runs h.member h.stands; who = h.who }

  member : is_member_at_end a.list name ≡ true
  member =
      let ok = (k.each name).leads (sequencer_leads_its_line (within w name x) name x s speaks t).leads in
      subst (λ l. is_member_at_end l name ≡ true) (sym ok.chain) ok.member

  leads_then : is_sequencer p ≡ true
  leads_then = is_sequencer_after_pushed_entry x e refl ∙ t

  stands_then : NameStands (within w name p) name p (node_with_entry a (Leave name))
  stands_then = subst (λ j. NameStands (within w name p) name p (node_with_entry a (Leave j))) h.who
      (longer_list_keeps_name_standing w name x p e a (record { log = refl; stays = refl; leaving = refl; promise = refl; ballot = refl; start = refl }) h.stands)

  counts : MayCount p list
  unfolding is_member_at_end
  counts =
      let may = (h.leads t).0 in
      let more : nodes.top p ≡ nodes.top x + 1 = (let z = length-append x.core.log.entries (e ∷ []) in omega arith) in
      record {
        good = pushed_list_is_good a.list (Leave name) may.good (leave_of_member_fits (image_of_list a.list) name member) tt;
        kept = may.kept;
        base = may.base;
        taken = may.taken;
        within = omega arith;
        sets = sets;
      }

  -- its reports are true of the longer list
  among_ok : CountsAmong among p list
  among_ok =
      let r = (h.leads t).1 in
      let grow : (i : ℕ) → IsBeginningOf (s.node i).list (among i).list =
      put_keeps_property (λ i (m : groups.ChainNode). IsBeginningOf (s.node i).list m.list) s.node name (node_with_entry a (Leave name)) (front_begins_append a.list (Leave name ∷ []))
      (λ j other. list_begins_itself (s.node j).list) in
      record {
        reports = reports_true_with_plain_entry s.node among a.list (Leave name) x.core.base x.reports tt grow (λ i same. absurd (cc)) r;
        own = ap (λ j. (among j).list) h.who ∙ ap (λ (m : groups.ChainNode). m.list) (put_at_same_index s.node name (node_with_entry a (Leave name)));
        blank = put_keeps_property (λ i (m : groups.ChainNode). m.has_log ≡ false → m.list ≡ []) s.node name (node_with_entry a (Leave name))
            (λ f. absurd (let log = speaks.up.log in cc)) (λ j other. (k.each j).blank);
      }

  held : MayAccept among list x.core.acc (refresh p).core.acc
  held = refresh_accepts_held_entries (within w name p) name p (node_with_entry a (Leave name)) among stands_then leads_then counts among_ok

  -- the same list after the refresh
  stands_gone : NameStands (within w name (refresh p)) name (refresh p) (node_with_entry a (Leave name))
  stands_gone = same_node_keeps_name_standing w name name p (refresh p) (node_with_entry a (Leave name)) (refresh_is_same_to_group p) stands_then

  -- what the end leaves of it
  closed_acc : (after_closing x).core ≡ (refresh p).core
  unfolding refresh_at_end
  closed_acc = ap (λ (n : Node). n.core) (settle_changes_only_sends (refresh p))

  needs : nat_lt 0 (size (other_members x)) ≡ false → view (w.nodes name) ≡ view x → NeedsClose w s name (after_closing x)
  needs none same_view =
      let l = sequencer_leads_its_line (within w name x) name x s speaks t in
      let chain = ((k.each name).leads l.leads).chain in
      let begins : IsBeginningOf w.group list = begins_through_both (subst (λ g. IsBeginningOf g a.list) h.group (subst (IsBeginningOf s.group) (sym chain) k.group))
      (front_begins_append a.list (Leave name ∷ [])) in
      let g = length s.group in
      let acc = (refresh p).core.acc in
      let upto = max g acc in
      let size_ = ap length h.group in
      let some = beginning_is_no_longer begins in
      let rises = held.rises in
      let high = held.within in
      let n = after_closing x in
      let r = refresh_rests_with_list p in
      let by : ((view n).by == n.core.who) ≡ true = ap (λ (c : CoreState). (image_of_log c.log).view.by == c.who) closed_acc
      ∙ sequencer_view_is_its_own (refresh p) (is_sequencer_after_rest r.rests ∙ leads_then) in
      let is : list_after_step w.group n ≡ take upto list = rw by
      (ap (list_with_accepted w.group) closed_acc ∙ grown_group_is_list_front (within w name (refresh p)) name (refresh p) (node_with_entry a (Leave name)) stands_gone begins
      ∙ ap (λ z. take (max z acc) list) (sym size_)) in
      let long : length (take upto list) ≡ upto = length_of_taken_list upto list (omega arith) in
      record {
        chain = line_of_leading_view s name k l.leads;
        alone = alone (within w name x) name x a h.stands h.who member none;
        upto = upto;
        accepts = up_to_group among list x.core.acc (length s.group) acc (omega arith) (omega arith) held;
        accepted = is;
        grows = subst (IsBeginningOf w.group) (sym is) (shorter_beginning_begins_longer begins (taken_front_begins_list upto list) (omega arith));
        no_view = no_decision w.views (w.nodes name) n
            (same_view ∙ sym (ap (λ (c : CoreState). (image_of_log c.log).view) closed_acc ∙ r.rests.view ∙ view_of_pushed_plain_entry x e refl));
      }

pub held_last_leave_is_accepted : ClosingAccepts
held_last_leave_is_accepted w s name heard x k h few t none sets same_view = needs w s name heard x k h few t sets none same_view
