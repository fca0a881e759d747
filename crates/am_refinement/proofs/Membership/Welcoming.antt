-- The Welcome that is sent is so: it tells a joiner where it became a member, and what is accepted below.
use Rattle.am_refinement.proofs.Words.{only_name_has_just_itself, ◌≡◌, ℕ, zero, suc, ◌+◌, ◌<◌, ◌≤◌, ◌==◌, nat_lt, true, List, length, take, Some, refl, sym, ap, ◌∙◌, subst, arith}
use Rattle.am_refinement.proofs.Words.{nat_tests, Entry, Join, Row, Image, Stamp, place_of_name, life_of_name, has, Log, row_at_place, row_of_name, log_image_at, image_of_log, item_at, IsBeginningOf}
use Rattle.am_refinement.proofs.Words.{IsGoodList, image_of_list, is_member_at_end, list_begins_itself, begins_through_both, shorter_beginning_begins_longer, beginning_is_no_longer, taken_front_begins_list, length_of_taken_list, take_length_of_beginning, row_of_place}
use Rattle.am_refinement.proofs.Words.{IsMemberRow, member_has_member_row, member_row_gives_member, member_of_both_is_between, Group, Node, is_sequencer, set_of_one_name, World, split_on_bool, MayWelcome, just_joined, asks_again}
use Rattle.am_refinement.proofs.Words.{NameStands, FrontsStand, Trimmed, WelcomeSays, WelcomeTo, has_begun, has_gone, has_left, is_leaving, may_begin, RowsLive}
use Rattle.am_abstract_group.specs.Group as groups
use Rattle.am_model.specs.Node as nodes
use Rattle.am_refinement.proofs.Changes.{image_of_whole_list, length_of_whole_list}
use Rattle.am_refinement.proofs.Names.{take_of_longer_list}
use Rattle.am_refinement.proofs.Membership.Joins.{joined_name_is_member, JoinedListAt, member_row_tells_its_join}
use Rattle.am_refinement.proofs.Parts.{image_at_of_whole_list}
use Rattle.am_refinement.proofs.{Parts.take_of_one_more, Sent.SpeaksForItsName, Sent.sequencer_leads_its_line, Sent.standing_entry_is_list_item}

-- ---- who is welcomed

-- the row of a member
pub row_of_member : (list : List Entry) (name : ℕ) → is_member_at_end list name ≡ true → row_of_name (image_of_list list) name ≡ row_of_place (image_of_list list) (place_of_name name)
row_of_member list name member =
    let is = (member_has_member_row list name member).is in
    let t : ((row_at_place (image_of_list list) name).life == life_of_name name) ≡ true = grind (arith, nat_tests) in
    rw t refl

last_joined : (list : List Entry) (name : ℕ) → item_at list (length list) ≡ Some (Join name) → is_member_at_end list name ≡ true
last_joined list name at = last (length list) refl at
  where
    last : (n : ℕ) → n ≡ length list → item_at list n ≡ Some (Join name) → is_member_at_end list name ≡ true
    last zero is at = absurd (cc)
    last (suc n) is at =
        let part = take_of_one_more list n (Join name) (omega arith) at in
        let all : take (n + 1) list ≡ list = (let z : n + 1 ≡ length list = omega arith in ap (λ k. take k list) z ∙ take_length_of_beginning (list_begins_itself list)) in
        subst (λ l. is_member_at_end l name ≡ true) (sym part ∙ all) (joined_name_is_member (take n list) name)

-- is a member, whose Join is accepted
pub record IsAcceptedMember (n : Node) (list : List Entry) (name : ℕ) : Type 0 where
  pub member : is_member_at_end list name ≡ true
  pub accepted : (row_of_name (nodes.image_of_node n) name).joined ≤ n.core.acc

pub welcomed_name_is_accepted_member : (v : World) (i : ℕ) (m n : Node) (a : groups.ChainNode) (name : ℕ) → NameStands v i n a → IsGoodList a.list → RowsLive n
    → n.core.log.start ≤ m.core.base → m.core.acc ≤ n.core.acc → MayWelcome m n name → IsAcceptedMember n a.list name
welcomed_name_is_accepted_member v i m n a name h good lives low up (just_joined number next high accepted stands) =
    let long = length_of_whole_list v i n a h in
    let at : item_at a.list (length a.list) ≡ Some
    (Join name) = (let z : length a.list ≡ number = long ∙ high in ap (item_at a.list) z ∙ standing_entry_is_list_item v i n a m.core.base number (Join name) h low stands) in
    let member = last_joined a.list name at in
    let joins = member_row_tells_its_join a.list name good member in
    let row = ap (λ (r : Row). r.joined) (ap (λ (g : Image). row_of_name g name) (sym (image_of_whole_list v i n a h)) ∙ row_of_member a.list name member) in
    record { member = member; accepted = omega arith }
welcomed_name_is_accepted_member v i m n a name h good lives low up (asks_again same life some stays accepted behind) =
    let told_ : nodes.image_of_node n ≡ nodes.image_of_node m = ap (λ (l : Log). image_of_log l) same in
    let told_is = image_of_whole_list v i n a h in
    let q = row_at_place (nodes.image_of_node n) name in
    let same_q : q ≡ row_at_place (nodes.image_of_node m) name = ap (λ (g : Image). row_at_place g name) told_ in
    let joined : q.joined ≡ (row_at_place (nodes.image_of_node m) name).joined = ap (λ (r : Row). r.joined) same_q in
    let left : q.left ≡ 0 = ap (λ (r : Row). r.left) same_q ∙ stays in
    let its : q.life ≡ life_of_name name = ap (λ (r : Row). r.life) same_q
    ∙ life (λ none. (let z = lives name (ap (λ (r : Row). r.life) same_q ∙ none) in let y : ⊥ = omega arith in y)) in
    let here : row_of_place (image_of_list a.list) (place_of_name name) ≡ q = ap (λ (g : Image). row_at_place g name) told_is in
    let in_ : IsMemberRow q (life_of_name name) = record { joined = omega arith; left = left; is = its } in
    let member = member_row_gives_member a.list name (subst (λ r. IsMemberRow r (life_of_name name)) (sym here) in_) in
    let row : (row_of_name (nodes.image_of_node n) name).joined ≡ q.joined = ap (λ (r : Row). r.joined)
    (ap (λ (g : Image). row_of_name g name) (sym told_is) ∙ row_of_member a.list name member ∙ here) in
    record { member = member; accepted = omega arith }

-- ---- the letter

welcome_said : (v : World) (i : ℕ) (n : Node) (s : Group) (name : ℕ) → SpeaksForItsName v i n s → is_sequencer n ≡ true → FrontsStand n (s.node i)
    → n.core.log.start ≤ n.core.base → n.core.base ≤ n.core.acc → IsAcceptedMember n (s.node i).list name
    → n.core.base < (row_of_name (nodes.image_of_node n) name).joined
    → WelcomeSays s i n.core.promise n.core.base (row_of_name (nodes.image_of_node n) name).joined (log_image_at n.core.log n.core.base) name
welcome_said v i n s name h t f low kept is above =
    let a = s.node i in
    let l = sequencer_leads_its_line v i n s h t in
    let fronts = (h.kept.each i).fronts in
    let accepted = is.accepted in
    let chain = ((h.kept.each i).leads l.leads).chain in
    let good : IsGoodList a.list = subst IsGoodList (sym chain) h.kept.views.good in
    let begins : IsBeginningOf s.group a.list = subst (IsBeginningOf s.group) (sym chain) h.kept.group in
    let join = (row_of_name (nodes.image_of_node n) name).joined in
    let row : join ≡ (row_of_place (image_of_list a.list) (place_of_name name)).joined =
    ap (λ (r : Row). r.joined) (ap (λ (g : Image). row_of_name g name) (sym (image_of_whole_list v i n a h.stands)) ∙ row_of_member a.list name is.member) in
    let joins : JoinedListAt a.list name join = subst (JoinedListAt a.list name) (sym row) (member_row_tells_its_join a.list name good is.member) in
    let part : take join a.list ≡ take join s.group = take_of_longer_list join s.group a.list begins (omega arith) in
    let front : take n.core.base a.list ≡ take n.core.base s.group = take_of_longer_list n.core.base s.group a.list begins (omega arith) in
    record {
      by = ap (λ (u : Stamp). u.by) (sym l.viewed) ∙ l.leads.by;
      decided = l.decided;
      above = above;
      accepted = omega arith;
      joined = subst (λ x. is_member_at_end x name ≡ true) part joins.member;
      first = λ b starts short. joins.first b (begins_through_both starts begins) short;
      image_ = image_at_of_whole_list v i n.core.base n a h.stands low ∙ ap image_of_list front;
      later = λ x d up. absurd (let most = h.kept.views.order x d in let c = l.current in omega arith);
    }

-- What was trimmed is stored by each name that was a member by then, is there and isn't leaving: so where the base isn't below the Join,
-- the joiner has begun, or will not.
welcome_to : (v : World) (i : ℕ) (n : Node) (s : Group) (name : ℕ) → SpeaksForItsName v i n s → is_sequencer n ≡ true → FrontsStand n (s.node i)
    → n.core.log.start ≤ n.core.base → n.core.base ≤ n.core.acc → IsAcceptedMember n (s.node i).list name → Trimmed s n.core.base
    → WelcomeTo s i n.core.promise n.core.base (row_of_name (nodes.image_of_node n) name).joined (log_image_at n.core.log n.core.base) name
welcome_to v i n s name h t f low kept is trimmed =
    let a = s.node i in
    let join = (row_of_name (nodes.image_of_node n) name).joined in
    split_on_bool (nat_lt n.core.base join)
    (λ u. may_begin (welcome_said v i n s name h t f low kept is (let z : n.core.base < join = grind (arith, nat_tests) in z)))
    (λ g.
    let reached : join ≤ n.core.base = grind (arith, nat_tests) in
    split_on_bool (s.node name).has_log (λ u. has_begun u)
    (λ none. split_on_bool (s.node name).stopped (λ u. has_gone u)
    (λ runs. split_on_bool (s.node name).leaving (λ u. is_leaving u)
    (λ stays. split_on_bool (s.node name).departed (λ u. has_left u)
    (λ never. absurd (
    let l = sequencer_leads_its_line v i n s h t in
    let chain = ((h.kept.each i).leads l.leads).chain in
    let good : IsGoodList a.list = subst IsGoodList (sym chain) h.kept.views.good in
    let begins : IsBeginningOf s.group a.list = subst (IsBeginningOf s.group) (sym chain) h.kept.group in
    let row : join ≡ (row_of_place (image_of_list a.list) (place_of_name name)).joined =
    ap (λ (r : Row). r.joined) (ap (λ (g : Image). row_of_name g name) (sym (image_of_whole_list v i n a h.stands)) ∙ row_of_member a.list name is.member) in
    let joins : JoinedListAt a.list name join = subst (JoinedListAt a.list name) (sym row) (member_row_tells_its_join a.list name good is.member) in
    let long = length_of_taken_list n.core.base s.group trimmed.accepted in
    let front = length_of_taken_list join a.list joins.within in
    let cut : IsBeginningOf (take n.core.base s.group) a.list = begins_through_both (taken_front_begins_list n.core.base s.group) begins in
    let there : is_member_at_end (take n.core.base s.group) name ≡ true = member_of_both_is_between name good
    (shorter_beginning_begins_longer (taken_front_begins_list join a.list) cut (omega arith)) cut joins.member is.member in
    let stored = beginning_is_no_longer (trimmed.stored name (record { goes = runs; stays = never }) stays there) in
    let nothing = ap length ((h.kept.each name).blank none) in
    omega arith))))))

-- to the joiner alone
pub sent_welcome_says_so : (v : World) (i : ℕ) (n : Node) (s : Group) (name : ℕ) → SpeaksForItsName v i n s → is_sequencer n ≡ true → FrontsStand n (s.node i)
    → n.core.log.start ≤ n.core.base → n.core.base ≤ n.core.acc → IsAcceptedMember n (s.node i).list name → Trimmed s n.core.base
    → (j : ℕ) → has (set_of_one_name name) j ≡ true
    → WelcomeTo s i n.core.promise n.core.base (row_of_name (nodes.image_of_node n) name).joined (log_image_at n.core.log n.core.base) j
sent_welcome_says_so v i n s name h t f low kept is trimmed j in_ =
    subst (WelcomeTo s i n.core.promise n.core.base (row_of_name (nodes.image_of_node n) name).joined (log_image_at n.core.log n.core.base)) (sym (only_name_has_just_itself name j in_))
    (welcome_to v i n s name h t f low kept is trimmed)
