-- What the group accepts at the end of a step, and what the name learns of it.
use Rattle.am_refinement.proofs.Words.{no_more_group, ◌≡◌, ℕ, ◌+◌, ◌-◌, ◌<◌, ◌≤◌, ◌==◌, max, min, nat_lt, true, false, List, ◌++◌, length, take, drop, refl, sym}
use Rattle.am_refinement.proofs.Words.{ap, ◌∙◌, subst, arith, append-nil, take-append-add, drop-append-add, drop-append_seam, nat_tests, length-take, Entry, top_of_log}
use Rattle.am_refinement.proofs.Words.{CoreState, raise_accepted_to_told, pass_over_below_join, IsBeginningOf, key_of_stamp, list_begins_itself, beginning_is_no_longer, shorter_beginning_begins_longer, taken_front_begins_list, length_of_taken_list, Group, IsUp}
use Rattle.am_refinement.proofs.Words.{MayAccept, GroupKeeps, Node, view, acts_in_its_view, is_sequencer, refresh, World, list_with_accepted, list_after_step, split_on_bool, both_of_and, refresh_rests_with_list}
use Rattle.am_refinement.proofs.Words.{is_sequencer_after_rest, NameStands, within, no_more, rises, ComesToBeforeEnd, AcceptsAndLearns, RefreshLearns, MayLearn, SequencersWord, nothing}
use Rattle.am_refinement.proofs.Words.{of_sequencer}
use Rattle.am_abstract_group.specs.Group as groups
use Rattle.am_model.specs.Node as nodes
use Rattle.am_refinement.proofs.{Changes.same_node_keeps_name_standing, Changes.running_member_is_up, Changes.refresh_is_same_to_group, Sent.SpeaksForItsName, Sent.sequencer_leads_its_line, Accepting.accepted_after_lead, Accepting.told_after_lead}
use Rattle.am_refinement.proofs.{Accepting.refresh_accepts_held_entries}
use Rattle.am_refinement.proofs.Changes.{length_of_whole_list}

-- ---- how far a name that follows learns that its list is accepted

-- what a step of who doesn't lead does to its fronts: it is told of no more than before, or than its sequencer says, and accepts what it
-- is told of and has
record Learns (s : Group) (name : ℕ) (n : Node) (heard : ℕ) : Type 0 where
  pub told : n.core.told ≤ max (s.node name).told heard
  pub up_to : (s.node name).acc ≤ n.core.acc
  pub given : n.core.acc ≤ max (s.node name).told n.core.told
  pub within : n.core.acc ≤ nodes.top n

word_group : (s : Group) (name heard : ℕ) → SequencersWord s name heard → heard ≤ length s.group
word_group s name heard (nothing z) = omega arith
word_group s name heard (of_sequencer from v low says) = says.accepted

word_before : (s : Group) (name heard x : ℕ) → SequencersWord s name heard → s.views.decided x ≡ true → key_of_stamp (s.node name).promise < x
    → heard ≤ length (s.views.chosen x).before
word_before s name heard x (nothing z) d above = omega arith
word_before s name heard x (of_sequencer from v low says) d above = says.before x d (omega arith)

follower_learns : (v : World) (name heard : ℕ) (n : Node) (s : Group) (group : List Entry) → GroupKeeps s → NameStands v name n (s.node name)
    → IsUp (s.node name) → IsBeginningOf s.group group → SequencersWord s name heard → Learns s name n heard → MayLearn s name n group
follower_learns v name heard n s group k old up grows word f =
    let ok = k.each name in
    let more = beginning_is_no_longer grows in
    let low = word_group s name heard word in
    let told = f.told in
    let up_to = f.up_to in
    let given = f.given in
    let within = f.within in
    let long = length_of_whole_list v name n (s.node name) old in
    record {
      up = up;
      told = omega arith;
      before = λ x d above. (let a = ok.heard x d above in let b = word_before s name heard x word d above in omega arith);
      up_to = f.up_to;
      given = omega arith;
      within = omega arith;
    }

-- ---- the group list after a step

pub sequencer_view_is_its_own : (n : Node) → is_sequencer n ≡ true → ((view n).by == n.core.who) ≡ true
sequencer_view_is_its_own n t = (both_of_and (acts_in_its_view n) ((view n).by == n.core.who) t).1

-- what is accepted beyond the group list is the list up to there
pub grown_group_is_list_front : (v : World) (i : ℕ) (n : Node) (a : groups.ChainNode) → NameStands v i n a → IsBeginningOf v.group a.list
    → list_with_accepted v.group n.core ≡ take (max (length v.group) n.core.acc) a.list
grown_group_is_list_front v i n a h begins =
    let start_ = n.core.log.start in
    let g = length v.group in
    let front = take start_ v.group in
    let entries = n.core.log.entries in
    let long : length front ≡ start_ = (let c = length-take start_ v.group in omega arith) in
    let at : length front + (g - start_) ≡ g = omega arith in
    let rest : drop (g - start_) entries ≡ begins.rest =
    sym (drop-append-add front entries (g - start_)) ∙ (λ i. drop (at i) (sym h.list i)) ∙ ap (drop g) (sym begins.same)
    ∙ drop-append_seam v.group begins.rest in
    let high : g + (n.core.acc - g) ≡ max g n.core.acc = omega arith in
    ap (λ l. v.group ++ take (n.core.acc - g) l) rest ∙ sym (take-append-add v.group begins.rest (n.core.acc - g)) ∙ (λ i. take (high i) (begins.same i))

pub group_with_no_more_accepted : (group : List Entry) (core : CoreState) → core.acc ≤ length group → list_with_accepted group core ≡ group
group_with_no_more_accepted group core low =
    let none : core.acc - length group ≡ 0 = omega arith in
    ap (λ k. group ++ take k (drop (length group - core.log.start) core.log.entries)) none ∙ append-nil group

-- ---- a sequencer

grown_after : (group list : List Entry) (n : Node) → is_sequencer n ≡ true → list_with_accepted group n.core ≡ list → list_after_step group n ≡ list
grown_after group list n t is = let by = sequencer_view_is_its_own n t in rw by is

-- what it tells is what it accepts
told_after : (x : Node) → is_sequencer x ≡ true → x.core.acc ≤ nodes.top x → (refresh x).core.told ≡ (refresh x).core.acc
unfolding refresh
told_after x t within = rw t (told_after_lead x ∙ sym (accepted_after_lead x within))

-- and who follows accepts what it is told of
pub follower_refresh_accepts_told : (x : Node) → is_sequencer x ≡ false
    → ((refresh x).core.told ≡ x.core.told) × ((refresh x).core.acc ≡ max x.core.acc (min x.core.told (nodes.top x)))
unfolding refresh raise_accepted_to_told pass_over_below_join
follower_refresh_accepts_told x f = rw f (refl, refl)

fewer : (node : ℕ → groups.ChainNode) (list : List Entry) (from g to : ℕ) → from ≤ g → g ≤ to → MayAccept node list from to → MayAccept node list g to
fewer node list from g to low high may = record { rises = high; within = may.within; held = λ n above below. may.held n (omega arith) below }

module _ (w : World) (s : Group) (name heard : ℕ) (x : Node) (k : GroupKeeps s) (h : ComesToBeforeEnd w s name heard x) where
  abbrev y : Node
  y = refresh x

  up : IsUp (s.node name)
  up = running_member_is_up w name x (s.node name) h.runs h.member h.stands

  -- the same list after the refresh
  stands_after : NameStands (within w name y) name y (s.node name)
  stands_after = same_node_keeps_name_standing w name name x y (s.node name) (refresh_is_same_to_group x) h.stands

  -- who follows
  follows : is_sequencer x ≡ false → AcceptsAndLearns w s name y
  follows f =
      let fronts = (k.each name).fronts in
      let heard_ = word_group s name heard h.word in
      let size = ap length h.group in
      let told = h.follows f in
      let up_to = h.up_to in
      let given = h.given in
      let is = follower_refresh_accepts_told x f in
      let same_top = ap top_of_log (refresh_rests_with_list x).log in
      let same = no_more_group w.group y (omega arith) in
      let grows : IsBeginningOf w.group (list_after_step w.group y) = subst (IsBeginningOf w.group) (sym same) (list_begins_itself w.group) in
      record {
        accepts = no_more same;
        grows = grows;
        learns = follower_learns (within w name y) name heard y s (list_after_step w.group y) k stands_after up
            (subst (λ g. IsBeginningOf g (list_after_step w.group y)) (sym h.group) grows) h.word
            (record { told = omega arith; up_to = omega arith; given = omega arith; within = omega arith });
      }

  -- a sequencer
  leads : is_sequencer x ≡ true → AcceptsAndLearns w s name y
  leads t =
      let a = s.node name in
      let speaks : SpeaksForItsName (within w name x) name x s = record { kept = k; stands = h.stands; up = up; who = h.who } in
      let l = sequencer_leads_its_line (within w name x) name x s speaks t in
      let counts = h.leads t in
      let chain = ((k.each name).leads l.leads).chain in
      let begins : IsBeginningOf w.group a.list = subst (λ g. IsBeginningOf g a.list) h.group (subst (IsBeginningOf s.group) (sym chain) k.group) in
      let own : (s.node x.core.who).list ≡ a.list = ap (λ j. (s.node j).list) h.who in
      let held = refresh_accepts_held_entries (within w name x) name x a s.node h.stands t counts.0
      (record { reports = counts.1; own = own; blank = λ j. (k.each j).blank }) in
      let g = length w.group in
      let size = ap length h.group in
      let some = beginning_is_no_longer begins in
      let all = max g y.core.acc in
      let is : list_after_step w.group y ≡ take all a.list = grown_after w.group (take all a.list) y (is_sequencer_after_rest (refresh_rests_with_list x).rests ∙ t)
      (grown_group_is_list_front (within w name y) name y a stands_after begins) in
      let long : length (take all a.list) ≡ all = length_of_taken_list all a.list (omega arith) in
      let long_after = ap length is in
      let fronts = (k.each name).fronts in
      let up_to = h.up_to in
      let its_told = told_after x t h.within in
      let grows : IsBeginningOf w.group (list_after_step w.group y) = subst (IsBeginningOf w.group) (sym is) (shorter_beginning_begins_longer begins (taken_front_begins_list all a.list) (omega arith)) in
      record {
        accepts = split_on_bool (nat_lt g y.core.acc)
            (λ more. (let up_ : g < y.core.acc = grind (arith, nat_tests) in
            let same : all ≡ y.core.acc = omega arith in
            rises l.leads (fewer s.node a.list x.core.acc (length s.group) y.core.acc (omega arith) (omega arith) held) (is ∙ ap (λ n. take n a.list) same)))
            (λ none. no_more (no_more_group w.group y (let low : y.core.acc ≤ g = grind (arith, nat_tests) in low)));
        grows = grows;
        learns = record {
          up = up;
          told = omega arith;
          before = λ z d above. absurd (let most = k.views.order z d in
              let promised : key_of_stamp a.promise ≡ key_of_stamp x.core.promise = ap key_of_stamp h.stands.promise in
              omega arith);
          up_to = omega arith;
          given = omega arith;
          within = omega arith;
        };
      }

pub refresh_learns_group_front : RefreshLearns
refresh_learns_group_front w s name heard x k h = split_on_bool (is_sequencer x) (leads w s name heard x k h) (follows w s name heard x k h)
