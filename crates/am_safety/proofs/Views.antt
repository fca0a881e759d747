-- A View that leaves somebody out always fits: what each run keeps of it up to its lawful front.
use Rattle.am_lawful_runs.proofs.Words.{◌≡◌, ◌≢◌, either, ℕ, ◌+◌, ◌-◌, ◌≤◌, true, List, [], ◌∷◌, ◌++◌, length, take, Some, sym, ap, ◌∙◌, subst, append_assoc}
use Rattle.am_lawful_runs.proofs.Words.{arith, Entry, Image, Stamp, Rules, size, members_of_image, Packet, item_at, IsBeginningOf, stamp_of_list, key_of_stamp, begins_through_both, beginning_is_no_longer}
use Rattle.am_lawful_runs.proofs.Words.{length_of_pushed_list, Group, IsUp, GroupKeeps, Node, top, World, NameStands, LinesOpen, Grows, length_of_whole_list, take_of_longer_list, image_at_of_whole_list}
use Rattle.am_base.specs.Whole.{image_of_list}
use Rattle.am_abstract_group.specs.Group as groups
use Rattle.am_lawful_runs.proofs.Lists.{item_stays_in_longer_list}
use Rattle.am_lawful_runs.proofs.Shapes.{ListsAreShaped}
use Rattle.am_safety.proofs.Fits.{EntryFitsAboveBase}
use Rattle.am_safety.proofs.Rows.{NodeStoresNextEntry}
use Rattle.am_refinement.proofs.Growing.{beginning_of_nil_is_nil}
use Rattle.am_refinement.proofs.Words.{cases_lt}

-- ---- a number of a list

pub record NumberFitsInList (rules : Rules) (list : List Entry) (base number : ℕ) : Type 0 where
  pub within : number ≤ length list
  pub fits : number - base ≤ rules.window + 16 - size (members_of_image (image_of_list (take number list)))

-- on a list that goes on
pub number_fits_in_longer_list : (rules : Rules) (a b : List Entry) (base number : ℕ) → IsBeginningOf a b → NumberFitsInList rules a base number → NumberFitsInList rules b base number
number_fits_in_longer_list rules a b base number h f =
    let same = ap (λ l. size (members_of_image (image_of_list l))) (take_of_longer_list number a b h f.within) in
    let low = beginning_is_no_longer h in
    let within = f.within in
    let fits = f.fits in
    record { within = omega arith; fits = omega arith }

-- and so far as it has it, of one that begins it
pub number_fits_in_beginning : (rules : Rules) (a b : List Entry) (base number : ℕ) → IsBeginningOf a b → number ≤ length a → NumberFitsInList rules b base number → NumberFitsInList rules a base number
number_fits_in_beginning rules a b base number h low f =
    let same = ap (λ l. size (members_of_image (image_of_list l))) (take_of_longer_list number a b h low) in
    let fits = f.fits in
    record { within = low; fits = omega arith }

-- up to the base nothing is asked
pub number_fits_up_to_base : (rules : Rules) (list : List Entry) (base number : ℕ) → number ≤ base → number ≤ length list → NumberFitsInList rules list base number
number_fits_up_to_base rules list base number low within = record { within = within; fits = omega arith }

-- a greater base asks less
fit_up : (rules : Rules) (list : List Entry) (base up number : ℕ) → base ≤ up → NumberFitsInList rules list base number → NumberFitsInList rules list up number
fit_up rules list base up number low f = let fits = f.fits in record { within = f.within; fits = omega arith }

-- ---- of a node

-- by its whole list
pub node_number_fits_in_list : (rules : Rules) (v : World) (i number : ℕ) (n : Node) (a : groups.ChainNode) → NameStands v i n a → n.core.log.start ≤ number → number ≤ top n
    → EntryFitsAboveBase rules n number → NumberFitsInList rules a.list n.core.base number
node_number_fits_in_list rules v i number n a h start low f =
    let same = ap (λ (g : Image). size (members_of_image g)) (image_at_of_whole_list v i number n a h start) in
    let long = length_of_whole_list v i n a h in
    record { within = omega arith; fits = omega arith }

fit_node : (rules : Rules) (v : World) (i number : ℕ) (n : Node) (a : groups.ChainNode) → NameStands v i n a → n.core.log.start ≤ number
    → NumberFitsInList rules a.list n.core.base number → EntryFitsAboveBase rules n number
fit_node rules v i number n a h start f =
    let same = ap (λ (g : Image). size (members_of_image g)) (image_at_of_whole_list v i number n a h start) in
    omega arith

-- ---- of letters

-- of the line of a decided view
pub record NumberFitsInLine (rules : Rules) (s : Group) (v : Stamp) (base number : ℕ) : Type 0 where
  pub decided : s.views.decided (key_of_stamp v) ≡ true
  pub fits : NumberFitsInList rules (s.views.line (key_of_stamp v)) base number

-- of that line, or of a list that was shown to the ballot, and sent of; or the view was decided before
pub data PieceFitsInLine (rules : Rules) (s : Group) (sender : ℕ) (v : Stamp) (base number : ℕ) (e : Entry) : Type 0 where
  of_line : NumberFitsInLine rules s v base number → item_at (s.views.line (key_of_stamp v)) number ≡ Some e → PieceFitsInLine rules s sender v base number e
  of_shown : (list : List Entry) → s.shown (key_of_stamp v) sender ≡ Some list → s.served (key_of_stamp v) sender ≡ true → item_at list number ≡ Some e
      → NumberFitsInList rules list base number → PieceFitsInLine rules s sender v base number e
  over : v.by ≢ sender → s.views.decided (key_of_stamp v) ≡ true → PieceFitsInLine rules s sender v base number e

abbrev pub PacketFitsInLine : Rules → Group → Packet → Type 0
PacketFitsInLine rules s (Packet.Bcast i v base acc number e) = NumberFitsInLine rules s v base number
PacketFitsInLine rules s (Packet.Order i v base acc number from req) = NumberFitsInLine rules s v base number
PacketFitsInLine rules s (Packet.Piece i v base number e) = PieceFitsInLine rules s i v base number e
PacketFitsInLine rules s (Packet.Result i base number v) = v.stamp.by ≡ i → NumberFitsInLine rules s v.stamp base number
PacketFitsInLine rules s _ = Unit {0}

line_on : (rules : Rules) (s t : Group) (v : Stamp) (base number : ℕ) → Grows s t → NumberFitsInLine rules s v base number → NumberFitsInLine rules t v base number
line_on rules s t v base number g h = record {
  decided = (g.decided (key_of_stamp v) h.decided).0;
  fits = number_fits_in_longer_list rules (s.views.line (key_of_stamp v)) (t.views.line (key_of_stamp v)) base number (g.lines (key_of_stamp v) h.decided) h.fits;
}

pub packet_fits_in_grown_group : (rules : Rules) (s t : Group) (p : Packet) → Grows s t → PacketFitsInLine rules s p → PacketFitsInLine rules t p
packet_fits_in_grown_group rules s t (Packet.Bcast i v base acc number e) g h = line_on rules s t v base number g h
packet_fits_in_grown_group rules s t (Packet.Order i v base acc number from req) g h = line_on rules s t v base number g h
packet_fits_in_grown_group rules s t (Packet.Piece i v base number e) g h = elim h [
  | of_line h at ↦ of_line (line_on rules s t v base number g h) (item_stays_in_longer_list number e (g.lines (key_of_stamp v) h.decided) at)
  | of_shown list is served at h ↦ of_shown list (g.shown (key_of_stamp v) i list is) (g.served (key_of_stamp v) i served) at h
  | over other d ↦ over other (g.decided (key_of_stamp v) d).0
]
packet_fits_in_grown_group rules s t (Packet.Result i base number v) g h = λ by. line_on rules s t v.stamp base number g (h by)
packet_fits_in_grown_group rules s t _ g h = tt

-- ---- lists on lines

-- who is up is on the line of its promise, where that was decided
pub promised_list_begins_line : (t : Group) (i : ℕ) → GroupKeeps t → IsUp (t.node i) → t.views.decided (key_of_stamp (t.node i).promise) ≡ true
    → IsBeginningOf (t.node i).list (t.views.line (key_of_stamp (t.node i).promise))
promised_list_begins_line t i k up d = either (cases_lt (key_of_stamp (t.node i).promise) (key_of_stamp t.views.current))
    (λ late. (let l = (k.each i).late up late in begins_through_both l.list (l.lines (key_of_stamp (t.node i).promise) d (omega arith))))
    (λ now. (let most = k.views.order (key_of_stamp (t.node i).promise) d in
    let same : key_of_stamp t.views.current ≡ key_of_stamp (t.node i).promise = omega arith in
    subst (λ x. IsBeginningOf (t.node i).list (t.views.line x)) same ((k.each i).list up)))

-- what begins a list is on the line of its last View
pub list_begins_line_of_view : (t : Group) (i : ℕ) (list : List Entry) → ListsAreShaped t → LinesOpen t → list ≢ [] → IsBeginningOf list (t.node i).list
    → IsBeginningOf list (t.views.line (key_of_stamp (stamp_of_list list)))
list_begins_line_of_view t i list shaped opens some h =
    let on = shaped.lines i (λ nil. some (beginning_of_nil_is_nil list (subst (IsBeginningOf list) nil h))) in
    (opens on.view list on.decided some (begins_through_both h on.line)).line_

-- ---- an entry that was stored

-- the name's list goes on with it
pub list_with_stored_entry_begins : (w v : World) (s t : Group) (i : ℕ) (m n x : Node) (base number : ℕ) (e : Entry) → NameStands w i m (s.node i) → NameStands v i n (t.node i)
    → IsBeginningOf w.group v.group → n.core.log ≡ x.core.log → NodeStoresNextEntry m x base number e → IsBeginningOf ((s.node i).list ++ e ∷ []) (t.node i).list
list_with_stored_entry_begins w v s t i m n x base number e hs ht grows log h =
    let start : n.core.log.start ≡ m.core.log.start = ap (λ l. l.start) log ∙ h.start in
    let entries : n.core.log.entries ≡ (m.core.log.entries ++ e ∷ []) ++ h.more = ap (λ l. l.entries) log ∙ h.entries in
    let front : take n.core.log.start v.group ≡ take m.core.log.start w.group = ap (λ k. take k v.group) start ∙ take_of_longer_list m.core.log.start w.group v.group
    grows hs.begins.within in
    record {
      rest = h.more;
      same = ap (λ l. (l ++ e ∷ []) ++ h.more) hs.list ∙ ap (λ l. l ++ h.more) (append_assoc (take m.core.log.start w.group) m.core.log.entries (e ∷ []))
          ∙ append_assoc (take m.core.log.start w.group) (m.core.log.entries ++ e ∷ []) h.more ∙ sym ((λ j. front j ++ entries j)) ∙ sym ht.list;
    }

-- where that is on a line, it fits the node as it fits the line
pub stored_entry_number_fits_line : (rules : Rules) (v : World) (t : Group) (i base number : ℕ) (n : Node) (list line : List Entry) (e : Entry) → NameStands v i n (t.node i)
    → n.core.log.start ≤ number → number ≡ length list + 1 → base ≤ n.core.base → IsBeginningOf (list ++ e ∷ []) (t.node i).list → IsBeginningOf (list ++ e ∷ []) line
    → NumberFitsInList rules line base number → EntryFitsAboveBase rules n number
stored_entry_number_fits_line rules v t i base number n list line e h start next low mine its f =
    let long = length_of_pushed_list list e in
    let part = number_fits_in_beginning rules (list ++ e ∷ []) line base number its (omega arith) f in
    fit_node rules v i number n (t.node i) h start (fit_up rules (t.node i).list base n.core.base number low (number_fits_in_longer_list rules (list ++ e ∷ []) (t.node i).list
    base number mine part))
