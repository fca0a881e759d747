-- Whose Join fits the sequencer's list has no list, and no Welcome could make it begin one.
use Rattle.am_repair.proofs.Repairable.RepairedWords.{member_has_not_departed, ◌≡◌, inl, either, ℕ, ◌<◌, ◌==◌, true, false, List, Some, slice_get, take, refl, sym, ap, ◌∙◌, subst, arith}
use Rattle.am_repair.proofs.Repairable.RepairedWords.{nat_tests, Entry, Join, Image, Stamp, Rules, place_of_name, life_of_name, has, row_at_place, fits, Packet, Letter, is_for, IsBeginningOf, is_member_at_end}
use Rattle.am_repair.proofs.Repairable.RepairedWords.{WasMemberRow, row_of_place, member_has_member_row, was_member_in_longer_list, taken_front_begins_list, begins_through_both, Group, IsUp, chain_of, GroupKeeps, Node, image_of_node, acts_in_its_view}
use Rattle.am_repair.proofs.Repairable.RepairedWords.{is_member, is_sequencer, has_log_by_status, has_departed, World, is_stopped, Status, split_on_bool, both_of_and, member_status_has_log, NameStands}
use Rattle.am_repair.proofs.Repairable.RepairedWords.{PacketSays, WelcomeTo, has_begun, has_gone, has_left, is_leaving, may_begin, Following, image_of_whole_list, sequencer_leads_its_line, LetterGoesToItsKind}
use Rattle.am_packet.specs.Kinds.{kind_of}
use Rattle.am_base.specs.Whole as whole

-- a name's Join fits no member's place, nor a past one's of its life
join_none : (image : Image) (name : ℕ) → fits image (Join name) ≡ true → WasMemberRow (row_at_place image name) (life_of_name name) → ⊥
unfolding fits
join_none image name f h = either h
    (λ x. let j = x.joined in let l = x.left in let z : ⊥ = grind (arith, nat_tests) in z)
    (λ x. let j = x.joined in either x.gone
    (λ y. let z : ⊥ = grind (arith, nat_tests) in z)
    (λ y. let a = y.0 in let b = y.1 in let z : ⊥ = grind
    (arith, nat_tests) in z))

-- a Welcome of a base
pub record IsWelcomeFromBase (base : ℕ) (p : Packet) : Type 0 where
  pub from : ℕ
  pub stamp : Stamp
  pub join : ℕ
  pub image : Image
  pub is : p ≡ Packet.Welcome from stamp base join image

-- one to a name
pub record WelcomeIsInLetters (w : World) (j base : ℕ) : Type 0 where
  pub number : ℕ
  pub letter : Letter
  pub there : slice_get w.letters number ≡ Some letter
  pub addressed : is_for letter j ≡ true
  pub welcome : IsWelcomeFromBase base letter.packet
  pub open welcome use *

-- the same letter, in another world
pub welcome_stays_in_world : (w v : World) (j base : ℕ) (h : WelcomeIsInLetters w j base) (k : ℕ) → slice_get v.letters k ≡ Some h.letter → WelcomeIsInLetters v j base
welcome_stays_in_world w v j base h k there = search (k, h.letter, there)

unlogged_here : (t : Status) → has_log_by_status t ≡ false → has_departed t ≡ false
unlogged_here Status.Departed f = absurd (cc)
unlogged_here _ f = refl

module _ (rules : Rules) (w : World) (s : Group) (q j : ℕ) (old : Following rules w s) (k : GroupKeeps s) (small : q < 256) (few : j < 256)
    (who : (w.nodes q).core.who ≡ q)
    (leads : is_sequencer (w.nodes q) ≡ true) (runs : is_stopped w q ≡ false) (fit : fits (image_of_node (w.nodes q)) (Join j) ≡ true) where
  m : Node
  m = w.nodes q

  member : is_member (w.nodes q).status ≡ true
  member = (both_of_and (is_member (w.nodes q).status) _ (both_of_and (acts_in_its_view (w.nodes q)) _ leads).0).0

  a_stands : NameStands w q (w.nodes q) (s.node q)
  a_stands = old.stands.each q small

  up : IsUp (s.node q)
  up = record {
    log = a_stands.log_ ∙ member_status_has_log (w.nodes q).status member;
    there = record { goes = a_stands.stopped ∙ runs; stays = a_stands.departed ∙ member_has_not_departed (w.nodes q).status member };
  }

  chain : (s.node q).list ≡ chain_of s.views
  chain = ((k.each q).leads (sequencer_leads_its_line w q (w.nodes q) s (record { kept = k; stands = a_stands; up = up; who = who }) leads).leads).chain

  told_ : whole.image_of_list (chain_of s.views) ≡ image_of_node (w.nodes q)
  told_ = ap whole.image_of_list (sym chain) ∙ image_of_whole_list w q (w.nodes q) (s.node q) a_stands

  -- it was no member of what was accepted
  none : (a : List Entry) → IsBeginningOf a s.group → is_member_at_end a j ≡ true → ⊥
  none a begins_ there =
      let was = was_member_in_longer_list j k.views.good (begins_through_both begins_ k.group) (inl (member_has_member_row a j there)) in
      join_none (image_of_node (w.nodes q)) j fit (subst (λ (i : Image). WasMemberRow (row_of_place i (place_of_name j)) (life_of_name j)) told_ was)

  pub joiner_has_no_list : has_log_by_status (w.nodes j).status ≡ false
  joiner_has_no_list = split_on_bool (has_log_by_status (w.nodes j).status)
      (λ t. absurd (
      let log = (old.stands.each j few).log_ ∙ t in
      none (take (s.node j).start s.group) (taken_front_begins_list (s.node j).start s.group) ((k.each j).joined log).member))
      (λ f. f)

  said : (from : ℕ) (stamp : Stamp) (base join : ℕ) (image : Image) → is_stopped w j ≡ false → WelcomeTo s from stamp base join image j → ⊥
  said from stamp base join image goes (has_begun t) = let z = sym (old.stands.each j few).log_ ∙ t in let y = joiner_has_no_list in cc
  said from stamp base join image goes (has_gone t) = let z = sym (old.stands.each j few).stopped ∙ t in cc
  said from stamp base join image goes (has_left t) =
      let z = sym (old.stands.each j few).departed ∙ t in let y = unlogged_here (w.nodes j).status joiner_has_no_list in cc
  said from stamp base join image goes (is_leaving t) =
      let z = sym (old.stands.each j few).leaving ∙ t in
      let y = (old.nodes j few (unlogged_here (w.nodes j).status joiner_has_no_list)).leaves z in
      let x = joiner_has_no_list in cc
  said from stamp base join image goes (may_begin h) = none (take join s.group) (taken_front_begins_list join s.group) h.joined

  pub no_welcome_begins_joiner_list : (base : ℕ) → is_stopped w j ≡ false → (h : WelcomeIsInLetters w j base) → LetterGoesToItsKind h.letter → ⊥
  no_welcome_begins_joiner_list base goes h any =
      let says : PacketSays w s h.letter.to (Packet.Welcome h.from h.stamp base h.join h.image) = subst (PacketSays w s h.letter.to) h.is
      (old.letters h.number h.letter h.there) in
      let plain : h.letter.any ≡ false = any ∙ ap (λ p. kind_of p == 9) h.is in
      let to : has h.letter.to j ≡ true = rw plain at h.addressed in
      said h.from h.stamp base h.join h.image goes (says.1 j to)
