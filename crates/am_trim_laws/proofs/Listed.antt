-- A sequencer that runs has each name in its list that goes on and was a member by what is accepted.
use Rattle.am_repair.proofs.Repairable.RepairedWords.{◌≡◌, ℕ, ◌<◌, true, false, take, sym, ap, ◌∙◌, subst, Rules, Group, GroupKeeps, World, Image, is_stopped, is_sequencer, has_departed}
use Rattle.am_repair.proofs.Repairable.RepairedWords.{has, members, members_of_image, is_member_at_end, begins_through_both, taken_front_begins_list, image_of_whole_list, Following}
use Rattle.am_repair.proofs.Repairable.One.{running_sequencer_leads}
use Rattle.am_abstract_group.specs.Group.{IsThere}

-- a name that runs, hasn't departed and isn't leaving
pub record GoesOn (w : World) (j : ℕ) : Type 0 where
  pub small : j < 256
  pub runs : is_stopped w j ≡ false
  pub here : has_departed (w.nodes j).status ≡ false
  pub stays : (w.nodes j).leaving ≡ false

pub running_sequencer_lists_member : (rules : Rules) (w : World) (s : Group) (q j number : ℕ) → Following rules w s → GroupKeeps s → q < 256 → (w.nodes q).core.who ≡ q
    → is_sequencer (w.nodes q) ≡ true → is_stopped w q ≡ false → GoesOn w j → is_member_at_end (take number w.group) j ≡ true → has (members (w.nodes q)) j ≡ true
unfolding is_member_at_end
running_sequencer_lists_member rules w s q j number follows kept few who leads runs on member =
    let l = running_sequencer_leads rules w s q follows kept few who leads runs in
    let chain = ((kept.each q).leads l.leads).chain in
    let stands = follows.stands.each j on.small in
    let member_s : is_member_at_end (take number s.group) j ≡ true = subst (λ g. is_member_at_end (take number g) j ≡ true) (sym follows.stands.group) member in
    let there : IsThere (s.node j) = record { goes = stands.stopped ∙ on.runs; stays = stands.departed ∙ on.here } in
    let last = (kept.each j).stays there (stands.leaving ∙ on.stays) (take number s.group) (begins_through_both (taken_front_begins_list number s.group) kept.group) member_s in
    let in_list : is_member_at_end (s.node q).list j ≡ true = subst (λ l_. is_member_at_end l_ j ≡ true) (sym chain) last in
    ap (λ (g : Image). has (members_of_image g) j) (sym (image_of_whole_list w q (w.nodes q) (s.node q) (follows.stands.each q few))) ∙ in_list
