-- What each change of the first founder keeps, which is the sequencer as long as it is a member.
use Rattle.am_run_laws.proofs.UnballotedWords.{◌≡◌, ℕ, ◌+◌, ◌≤◌, ◌==◌, true, false, List, [], ◌∷◌, ◌++◌, length, take, Some, slice_get, refl, sym, ap, ◌∙◌, subst}
use Rattle.am_run_laws.proofs.UnballotedWords.{length-append, arith, All, flat_map-append, All-push, All-head, All-tail, Image, Entry, Data, Join, Leave, View}
use Rattle.am_run_laws.proofs.UnballotedWords.{Rules, life_of_name, Log, blank, image_after_entries, after, fits, row_at_place, requests_of_sender, request_of_sender_in_entry, Node, top, is_member, push_entry}
use Rattle.am_run_laws.proofs.UnballotedWords.{founders_entry, founding_stamp, has_log_by_status, is_view, split_on_bool, IsGoodList, image_of_list, is_member_at_end, ViewNameIsByte, pushed_list_is_good, slice_get_of_pushed}
use Rattle.am_node_defs.specs.Sends as own
use Rattle.am_model.specs.Node as nodes
use Rattle.am_run_laws.proofs.{UnballotedKept.first_founder_of, UnballotedKept.UnballotedNodeKeeps, UnballotedKept.unballoted_node_in_longer_list, Others.next_entry_keeps_unballoted_node, Turns.UnsettledSendsAreInTurn}

-- ---- the whole list

-- the founders' View, and then no other
pub record ListHasOnlyFoundersView (rules : Rules) (list : List Entry) : Type 0 where
  pub rest : List Entry
  pub is : list ≡ founders_entry rules ∷ rest
  pub plain : All (λ e. is_view e ≡ false) rest

-- what the last View says stays
record SameView (a b : Image) : Type 0 where
  pub view : b.view ≡ a.view
  pub number : b.view_number ≡ a.view_number
  pub resilience : b.resilience ≡ a.resilience

same_after : (image : Image) (n : ℕ) (e : Entry) → is_view e ≡ false → SameView image (after image n e)
unfolding after
same_after image n (Data from req body) f = split_on_bool ((row_at_place image from).life == life_of_name from)
    (λ t. rw t (record { view = refl; number = refl; resilience = refl })) (λ g. rw g (record { view = refl; number = refl; resilience = refl }))
same_after image n (Join name) f = record { view = refl; number = refl; resilience = refl }
same_after image n (Leave name) f = split_on_bool ((row_at_place image name).life == life_of_name name) (λ t. rw t (record { view = refl; number = refl; resilience = refl }))
    (λ g. rw g (record { view = refl; number = refl; resilience = refl }))
same_after image n (View v) f = absurd (cc)

same_fold : (image : Image) (n : ℕ) (es : List Entry) → All (λ e. is_view e ≡ false) es → SameView image (image_after_entries image n es)
unfolding image_after_entries
same_fold image n [] h = record { view = refl; number = refl; resilience = refl }
same_fold image n (e ∷ es) h =
    let P : Entry → Type 0 = λ x. is_view x ≡ false in
    let a = same_after image n e (All-head P e es h) in
    let b = same_fold (after image n e) (n + 1) es (All-tail P e es h) in
    record { view = b.view ∙ a.view; number = b.number ∙ a.number; resilience = b.resilience ∙ a.resilience }

-- what the founders' View says
pub record ImageHasFoundersView (rules : Rules) (image : Image) : Type 0 where
  pub view : image.view ≡ founding_stamp rules
  pub number : image.view_number ≡ 1
  pub resilience : image.resilience ≡ rules.resilience

founded : (rules : Rules) → ImageHasFoundersView rules (after blank 1 (founders_entry rules))
unfolding after
founded rules = record { view = refl; number = refl; resilience = refl }

pub image_has_founders_view : (rules : Rules) (list : List Entry) → ListHasOnlyFoundersView rules list → ImageHasFoundersView rules (image_of_list list)
unfolding image_after_entries
image_has_founders_view rules list h =
    let a = founded rules in
    let b = same_fold (after blank 1 (founders_entry rules)) (1 + 1) h.rest h.plain in
    subst (λ l. ImageHasFoundersView rules (image_of_list l)) (sym h.is) (record {
      view = b.view ∙ a.view;
      number = b.number ∙ a.number;
      resilience = b.resilience
          ∙ a.resilience;
    })

-- ---- its own sends

pub record FoundersSendsAreNext (rules : Rules) (list : List Entry) (sends : own.Sends) : Type 0 where
  pub next : ℕ
  pub turn : UnsettledSendsAreInTurn next next sends.queue sends.last
  pub low : next ≤ length (requests_of_sender (first_founder_of rules) list) + 1

-- ---- the founder

pub record FirstFounderBase (rules : Rules) (m : Node) : Type 0 where
  pub node : UnballotedNodeKeeps rules m.core.log.entries m.core.acc (first_founder_of rules) m
  pub start : m.core.log.start ≡ 0
  pub group : ListHasOnlyFoundersView rules m.core.log.entries
  pub good : IsGoodList m.core.log.entries
  pub log : has_log_by_status m.status ≡ true
  pub own : FoundersSendsAreNext rules m.core.log.entries m.sends

-- with the same list and the same sends
pub founder_base_of_same_list : (rules : Rules) (m n : Node) → n.core.log ≡ m.core.log → n.sends ≡ m.sends → has_log_by_status n.status ≡ true
    → UnballotedNodeKeeps rules n.core.log.entries n.core.acc (first_founder_of rules) n → FirstFounderBase rules m → FirstFounderBase rules n
founder_base_of_same_list rules m n log sends listed node h = record {
  node = node;
  start = ap (λ (l : Log). l.start) log ∙ h.start;
  group = subst (λ (l : Log). ListHasOnlyFoundersView rules l.entries) (sym log) h.group;
  good = subst (λ (l : Log). IsGoodList l.entries) (sym log) h.good;
  log = listed;
  own = subst (λ (q : own.Sends). FoundersSendsAreNext rules n.core.log.entries q) (sym sends) (subst (λ (l : Log). FoundersSendsAreNext rules l.entries m.sends) (sym log) h.own);
}

pub record FirstFounderStaysMember (rules : Rules) (m : Node) : Type 0 where
  pub base : FirstFounderBase rules m
  pub member : is_member m.status ≡ true → is_member_at_end m.core.log.entries (first_founder_of rules) ≡ true

pub image_of_first_founder : (rules : Rules) (m : Node) → FirstFounderBase rules m → nodes.image_of_node m ≡ image_of_list m.core.log.entries
unfolding image_after_entries
image_of_first_founder rules m h =
    let list = m.core.log.entries in
    let image : m.core.log.image ≡ blank = h.node.log.image ∙ ap (λ n. image_of_list (take n list)) h.start in
    let one : m.core.log.start + 1 ≡ 1 = let s = h.start in omega arith in
    ap (λ i. image_after_entries i (m.core.log.start + 1) list) image ∙ ap (λ n. image_after_entries blank n list) one

-- ---- an entry more

small : (e : Entry) → is_view e ≡ false → ViewNameIsByte e
small (View v) f = absurd (cc)
small _ f = tt

group_push : (rules : Rules) (list : List Entry) (e : Entry) → is_view e ≡ false → ListHasOnlyFoundersView rules list → ListHasOnlyFoundersView rules (list ++ e ∷ [])
group_push rules list e f h = record { rest = h.rest ++ e ∷ []; is = ap (λ l. l ++ e ∷ []) h.is; plain = All-push (λ x. is_view x ≡ false) h.rest e h.plain f }

own_push : (rules : Rules) (list : List Entry) (e : Entry) (sends : own.Sends) → FoundersSendsAreNext rules list sends → FoundersSendsAreNext rules (list ++ e ∷ []) sends
own_push rules list e sends h =
    let a = flat_map-append (request_of_sender_in_entry (first_founder_of rules)) list (e ∷ []) in
    let b = ap length a in
    let d = length-append (requests_of_sender (first_founder_of rules) list) (requests_of_sender (first_founder_of rules) (e ∷ [])) in
    record { next = h.next; turn = h.turn; low = let l = h.low in omega arith }

pub founder_base_after_plain_entry : (rules : Rules) (m : Node) (e : Entry) → is_view e ≡ false → fits (image_of_list m.core.log.entries) e ≡ true → FirstFounderBase rules m
    → FirstFounderBase rules (push_entry m e)
founder_base_after_plain_entry rules m e plain fit h =
    let list = m.core.log.entries in
    let i = first_founder_of rules in
    let more = unballoted_node_in_longer_list rules list (e ∷ []) m.core.acc m.core.acc i m (omega arith) h.node in
    let high : top m ≡ length list = (let s = h.start in omega arith) in
    let next : slice_get (list ++ e ∷ []) (top m) ≡ Some e = ap (slice_get (list ++ e ∷ [])) high ∙ slice_get_of_pushed list e in
    assumption (
      next_entry_keeps_unballoted_node rules (list ++ e ∷ []) m.core.acc i m e next more,
      group_push rules list e plain h.group,
      pushed_list_is_good list e h.good fit (small e plain),
      own_push rules list e m.sends h.own,
    )
