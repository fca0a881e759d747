-- What a sender says is so.
use Rattle.am_refinement.proofs.Words.{stamp_eq_gives_equality, ◌≡◌, either, ℕ, suc, ◌+◌, ◌≤◌, ◌==◌, List, [], ◌∷◌, ◌++◌, length, take, true, Some, slice_get, sym, ap}
use Rattle.am_refinement.proofs.Words.{◌∙◌, subst, arith, cases_lt, length-take, nat_tests, Entry, Stamp, Image, stamps_are_equal, item_at, IsBeginningOf, IsGoodList, stamp_of_list, key_of_stamp}
use Rattle.am_refinement.proofs.Words.{begins_through_both, take_length_of_beginning, list_begins_itself, Group, IsUp, chain_of, GroupKeeps, Node, view, is_member, acts_in_its_view, is_sequencer, World}
use Rattle.am_refinement.proofs.Words.{split_on_bool, both_of_and, NameStands, FrontsStand, line, IsDecided, SequencerSays, EntrySays, ReportSays, LeaverSays, of_view}
use Rattle.am_refinement.proofs.Words.{before_it, PieceSays, of_line}
use Rattle.am_abstract_group.specs.Group as groups
use Rattle.am_model.specs.Node as nodes
use Rattle.am_step_laws.specs.Letters as letters
use Rattle.am_refinement.proofs.{Changes.image_of_whole_list, Changes.length_of_whole_list, Growing.line_of_leading_view}

-- ---- what is known of who sends

-- it stands for a name of the group, which is up, as it is after the step
pub record SpeaksForItsName (v : World) (i : ℕ) (n : Node) (s : Group) : Type 0 where
  pub kept : GroupKeeps s
  pub stands : NameStands v i n (s.node i)
  pub up : IsUp (s.node i)
  pub who : n.core.who ≡ i

-- where its promise was decided, its list begins that view's line
pub list_begins_line_of_promise : (v : World) (i : ℕ) (n : Node) (s : Group) → SpeaksForItsName v i n s → IsDecided s n.core.promise → IsBeginningOf (s.node i).list (line s n.core.promise)
list_begins_line_of_promise v i n s h d =
    let ok = h.kept.each i in
    let a = s.node i in
    let same : a.promise ≡ n.core.promise = h.stands.promise in
    let decided : s.views.decided (key_of_stamp a.promise) ≡ true = ap (λ (u : Stamp). s.views.decided (key_of_stamp u)) same ∙ d in
    let most = h.kept.views.order (key_of_stamp a.promise) decided in
    subst (λ (u : Stamp). IsBeginningOf a.list (line s u)) same (either (cases_lt (key_of_stamp a.promise) (key_of_stamp s.views.current))
    (λ below. (let late = ok.late h.up below in
    begins_through_both late.list (late.lines (key_of_stamp a.promise) decided (omega arith))))
    (λ above. (let keys : key_of_stamp s.views.current ≡ key_of_stamp a.promise = omega arith in
    subst (λ x. IsBeginningOf a.list (s.views.line x)) keys (ok.list h.up))))

all_taken : (list : List Entry) (n : ℕ) → n ≡ length list → take n list ≡ list
all_taken list n is = ap (λ k. take k list) is ∙ take_length_of_beginning (list_begins_itself list)

-- ---- reports

pub sent_report_says_so : (v : World) (i : ℕ) (n : Node) (s : Group) → SpeaksForItsName v i n s → IsDecided s n.core.promise → ReportSays s i n.core.promise (nodes.own_report_of n)
sent_report_says_so v i n s h d =
    let long = length_of_whole_list v i n (s.node i) h.stands in
    record {
      decided = d;
      within = omega arith;
      begins = subst (λ l. IsBeginningOf l (line s n.core.promise)) (sym (all_taken (s.node i).list (nodes.top n) (sym long))) (list_begins_line_of_promise v i n s h d);
    }

pub sent_leaver_report_says_so : (v : World) (i : ℕ) (n : Node) (s : Group) → SpeaksForItsName v i n s → n.leaving ≡ true → LeaverSays s i n.core.promise (nodes.own_report_of n)
sent_leaver_report_says_so v i n s h leaves =
    let long = length_of_whole_list v i n (s.node i) h.stands in
    let joined = (h.kept.each i).joined h.up.log in
    split_on_bool (s.views.decided (key_of_stamp n.core.promise))
    (λ d. of_view (h.stands.leaving ∙ leaves) (sent_report_says_so v i n s h d))
    (λ f. before_it (h.stands.leaving ∙ leaves) (record {
      within = omega arith;
      join = (s.node i).start;
      accepted = joined.accepted;
      joined = joined.member;
      later = λ d. absurd (cc);
      begins = λ d member. absurd (cc);
    }))

-- ---- a sequencer

pub record LeadsItsLine (i : ℕ) (n : Node) (s : Group) : Type 0 where
  pub leads : groups.Leads i (s.node i)
  pub viewed : stamp_of_list (s.node i).list ≡ n.core.promise
  pub decided : IsDecided s n.core.promise
  pub line_ : line s n.core.promise ≡ (s.node i).list
  pub current : key_of_stamp n.core.promise ≡ key_of_stamp s.views.current

pub sequencer_leads_its_line : (v : World) (i : ℕ) (n : Node) (s : Group) → SpeaksForItsName v i n s → is_sequencer n ≡ true → LeadsItsLine i n s
unfolding stamp_of_list
sequencer_leads_its_line v i n s h t =
    let a = s.node i in
    let both = both_of_and (acts_in_its_view n) ((view n).by == n.core.who) t in
    let acting = both_of_and (is_member n.status) (stamps_are_equal n.core.promise (view n)) both.0 in
    let whole_view : stamp_of_list a.list ≡ view n = ap (λ (g : Image). g.view) (image_of_whole_list v i n a h.stands) in
    let promise : n.core.promise ≡ view n = stamp_eq_gives_equality n.core.promise (view n) acting.1 in
    let own : (view n).by ≡ i = (let z : (view n).by ≡ n.core.who = (let y = both.1 in grind (arith, nat_tests)) in z ∙ h.who) in
    let leads : groups.Leads i a = record { up = h.up; acts = h.stands.promise ∙ promise ∙ sym whole_view; by = ap (λ (u : Stamp). u.by) whole_view ∙ own } in
    let ok = (h.kept.each i).leads leads in
    let now : stamp_of_list a.list ≡ s.views.current = ap stamp_of_list ok.chain ∙ h.kept.views.view in
    let viewed : stamp_of_list a.list ≡ n.core.promise = whole_view ∙ sym promise in
    let keys : key_of_stamp n.core.promise ≡ key_of_stamp s.views.current = ap key_of_stamp (sym viewed ∙ now) in
    assumption (ap s.views.decided keys ∙ h.kept.views.now, ap s.views.line (ap key_of_stamp (sym viewed)) ∙ line_of_leading_view s i h.kept leads)

-- its list is the chain
pub record ListIsTheChain (s : Group) (list : List Entry) : Type 0 where
  pub chain : list ≡ chain_of s.views
  pub good : IsGoodList list
  pub group_in : IsBeginningOf s.group list

pub sequencer_list_is_chain : (v : World) (i : ℕ) (n : Node) (s : Group) → SpeaksForItsName v i n s → is_sequencer n ≡ true → ListIsTheChain s (s.node i).list
sequencer_list_is_chain v i n s h t =
    let chain = ((h.kept.each i).leads (sequencer_leads_its_line v i n s h t).leads).chain in
    record { chain = chain; good = subst IsGoodList (sym chain) h.kept.views.good; group_in = subst (IsBeginningOf s.group) (sym chain) h.kept.group }

-- it has accepted no more than the group, and no later ballot was decided
pub sequencer_accepts_what_group_has : (v : World) (i : ℕ) (n : Node) (s : Group) → SpeaksForItsName v i n s → is_sequencer n ≡ true → FrontsStand n (s.node i)
    → SequencerSays s i n.core.promise n.core.acc
sequencer_accepts_what_group_has v i n s h t f =
    let l = sequencer_leads_its_line v i n s h t in
    let fronts = (h.kept.each i).fronts in
    record {
      by = ap (λ (u : Stamp). u.by) (sym l.viewed) ∙ l.leads.by;
      decided = l.decided;
      accepted = omega arith;
      before = λ x d above. absurd (let most = h.kept.views.order x d in let c = l.current in omega arith);
    }

-- what stands in its list stands in its line
whole_item : (front entries : List Entry) (index : ℕ) (e : Entry) → slice_get entries index ≡ Some e
    → slice_get (front ++ entries) (length front + index) ≡ Some e
whole_item [] entries index e h = let z : length {A = Entry} [] + index ≡ index = omega arith in ap (slice_get entries) z ∙ h
whole_item (x ∷ front) entries index e h = let z : length (x ∷ front) + index ≡ suc (length front + index) = omega arith in
    ap (slice_get ((x ∷ front) ++ entries)) z ∙ whole_item front entries index e h

pub standing_entry_is_list_item : (v : World) (i : ℕ) (n : Node) (a : groups.ChainNode) (base number : ℕ) (e : Entry) → NameStands v i n a → n.core.log.start ≤ base
    → letters.EntryStands n.core.log base number e → item_at a.list number ≡ Some e
standing_entry_is_list_item v i n a base number e h low at =
    let start_ = n.core.log.start in
    let front = take start_ v.group in
    let long : length front ≡ start_ = (let b = h.begins.within in let c = length-take start_ v.group in omega arith) in
    let is : number ≡ suc (length front + at.index) = omega arith in
    ap (item_at a.list) is ∙ ap (λ l. slice_get l (length front + at.index)) h.list ∙ whole_item front n.core.log.entries at.index e at.there

pub sent_entry_says_so : (v : World) (i : ℕ) (n : Node) (s : Group) (base number : ℕ) (e : Entry) → SpeaksForItsName v i n s → is_sequencer n ≡ true
    → FrontsStand n (s.node i) → n.core.log.start ≤ base → letters.EntryStands n.core.log base number e → EntrySays s i n.core.promise n.core.acc number e
sent_entry_says_so v i n s base number e h t f low at =
    let l = sequencer_leads_its_line v i n s h t in
    record {
      sequencer = sequencer_accepts_what_group_has v i n s h t f;
      stands = ap (λ g. item_at g number) l.line_ ∙ standing_entry_is_list_item v i n (s.node i) base number e h.stands low at;
    }

-- a Piece of its own view
pub sent_piece_says_so : (v : World) (i : ℕ) (n : Node) (s : Group) (base number : ℕ) (e : Entry) → SpeaksForItsName v i n s → is_sequencer n ≡ true
    → n.core.log.start ≤ base → letters.EntryStands n.core.log base number e → PieceSays s i n.core.promise number e
sent_piece_says_so v i n s base number e h t low at =
    let l = sequencer_leads_its_line v i n s h t in
    of_line (ap (λ (u : Stamp). u.by) (sym l.viewed) ∙ l.leads.by) l.decided
    (ap (λ g. item_at g number) l.line_ ∙ standing_entry_is_list_item v i n (s.node i) base number e h.stands low at)
