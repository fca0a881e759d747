-- How high the numbers of the letters are that a node sends.
use Rattle.am_step_laws.proofs.Words.{◌≡◌, ℕ, ◌≤◌, ◌==◌, nat_lt, nat_le, true, List, [], ◌∷◌, ap, arith, All, nat_tests, All-nil, All-cons, life_of_name, Log, row_at_place}
use Rattle.am_step_laws.proofs.Words.{row_of_name, image_of_log, Packet, Node, top, image_of_node, leaver_may_go, split_on_bool, Cause, MayWelcome, just_joined, asks_again, Says, bcast, order}
use Rattle.am_step_laws.proofs.Words.{refl, hold, welcome, gone, fetch, piece, result, request, spread, vote, Bounds, PacketIsWithinBounds}
use Rattle.am_model.specs.Sequencing.{row_of_name_in_list}
use Rattle.am_packet.specs.Spelling.{stamp_of}
use Rattle.am_step_laws.specs.Packets.{entry_numbers_of, accepted_of}
use Rattle.am_step_laws.specs.Letters.{accept, ack, nack, leave_ask}
use Rattle.am_step_laws.proofs.Numbers.Counts.{NumbersAreLow, AcceptedIsWithinGroup}
use Rattle.am_step_laws.proofs.Numbers.Images.{ImageIsUpTo, told_image_up_to_top, row_of_up_to_number}

one_low : (g x : ℕ) → x ≤ g → All (λ n. n ≤ g) (x ∷ [])
one_low g x h = All-cons (λ n. n ≤ g) x [] h (All-nil (λ n. n ≤ g))

two_low : (g x y : ℕ) → x ≤ g → y ≤ g → All (λ n. n ≤ g) (x ∷ y ∷ [])
two_low g x y h k = All-cons (λ n. n ≤ g) x (y ∷ []) h (one_low g y k)

three_low : (g x y z : ℕ) → x ≤ g → y ≤ g → z ≤ g → All (λ n. n ≤ g) (x ∷ y ∷ z ∷ [])
three_low g x y z h k l = All-cons (λ n. n ≤ g) x (y ∷ z ∷ []) h (two_low g y z k l)

none_low : (g : ℕ) → All (λ n. n ≤ g) []
none_low g = All-nil (λ n. n ≤ g)

-- what a node that sends is like: its numbers, and those of the group's list
pub record SenderNumbersAreLow (b : Bounds) (g : ℕ) (c : Cause) (m n : Node) : Type 0 where
  pub low : NumbersAreLow b g n
  pub behind : AcceptedIsWithinGroup g n
  pub group : g ≤ b.lists
  -- its list has one entry more at most, where it welcomes
  pub next : (s : ℕ) → MayWelcome m n s → (row_of_name (image_of_node n) s).joined ≤ g
  pub image : ImageIsUpTo n.core.log.start n.core.log.image

-- a leaver that may go has an accepted Leave
gone_low : (n : Node) (s : ℕ) → leaver_may_go n s ≡ true → (row_of_name_in_list n s).left ≤ n.core.acc
gone_low n s h = split_on_bool (nat_lt 0 (row_of_name_in_list n s).left)
    (λ t. let h1 = rw t at h in split_on_bool (nat_le (row_of_name_in_list n s).left n.core.acc) (λ u. grind (arith, nat_tests)) (λ f. absurd (let h2 = rw f at h1 in cc)))
    (λ f. absurd (let h1 = rw f at h in cc))

-- the numbers of a node that sends, in one place
record Told (b : Bounds) (g : ℕ) (n : Node) : Type 0 where
  round : n.core.promise.round ≤ b.rounds
  high : top n ≤ b.lists
  taken : n.core.taken ≤ b.lists
  acc : n.core.acc ≤ b.lists
  base : n.core.base ≤ b.lists
  took : n.core.taken ≤ g
  accepted : n.core.acc ≤ g
  trims : n.core.base ≤ g

told_of : (b : Bounds) (g : ℕ) (c : Cause) (m n : Node) → SenderNumbersAreLow b g c m n → Told b g n
told_of b g c m n h =
    let high = h.low.entries in
    let accepted = h.low.accepted in
    let trims = h.low.trims in
    record {
      round = h.low.rounds;
      high = high;
      taken = omega arith;
      acc = omega arith;
      base = omega arith;
      took = h.low.took;
      accepted = h.behind.acc;
      trims = trims;
    }

-- a packet that reports
told_low : (b : Bounds) (g : ℕ) (n : Node) (p : Packet) → Told b g n → (stamp_of p).round ≡ n.core.promise.round → entry_numbers_of p ≡ top n ∷ n.core.taken ∷ []
    → accepted_of p ≡ n.core.taken ∷ [] → PacketIsWithinBounds b g p
told_low b g n p t round numbers accepted = record {
  round = rw round t.round;
  numbers = rw numbers (two_low b.lists (top n) n.core.taken t.high t.taken);
  accepted = rw accepted (one_low g n.core.taken t.took);
}

pub said_packet_numbers_are_low : (b : Bounds) (g : ℕ) (m n : Node) (c : Cause) (to : List ℕ) (p : Packet) → SenderNumbersAreLow b g c m n → Says m c n to p → PacketIsWithinBounds b g p
said_packet_numbers_are_low b g m n c to p h (bcast _ number e l s) =
    let t = told_of b g c m n h in
    record { round = t.round; numbers = three_low b.lists n.core.base n.core.acc number t.base t.acc (omega arith); accepted = one_low g n.core.acc t.accepted }
said_packet_numbers_are_low b g m n c to p h (order _ number from req v report body is l s) =
    let t = told_of b g c m n h in
    record { round = t.round; numbers = three_low b.lists n.core.base n.core.acc number t.base t.acc (omega arith); accepted = one_low g n.core.acc t.accepted }
said_packet_numbers_are_low b g m n c to p h (accept _ poll l) =
    let t = told_of b g c m n h in
    record { round = t.round; numbers = three_low b.lists n.core.base n.core.acc (top n) t.base t.acc t.high; accepted = one_low g n.core.acc t.accepted }
said_packet_numbers_are_low b g m n c to p h (hold _ s v report req body by l) =
    let t = told_of b g c m n h in
    record { round = t.round; numbers = two_low b.lists n.core.base (top n) t.base t.high; accepted = none_low g }
said_packet_numbers_are_low b g m n c to p h (welcome s l may) =
    let t = told_of b g c m n h in
    let join = h.next s may in
    record {
      round = t.round;
      numbers = two_low b.lists n.core.base (row_of_name (image_of_node n) s).joined t.base (omega arith);
      accepted = two_low g n.core.base (row_of_name (image_of_node n) s).joined t.trims join;
    }
said_packet_numbers_are_low b g m n c to p h (gone s l may) =
    let t = told_of b g c m n h in
    let low = gone_low n s may in
    record { round = t.round; numbers = one_low b.lists (row_of_name_in_list n s).left (omega arith); accepted = none_low g }
said_packet_numbers_are_low b g m n c to p h (fetch _ may) =
    let t = told_of b g c m n h in
    record { round = t.round; numbers = one_low b.lists (top n) t.high; accepted = none_low g }
said_packet_numbers_are_low b g m n c to p h (piece s v stored number e is may at) =
    let t = told_of b g c m n h in
    record { round = t.round; numbers = two_low b.lists n.core.base number t.base (omega arith); accepted = one_low g n.core.base t.trims }
said_packet_numbers_are_low b g m n c to p h (result _ number names is viewed may) =
    let t = told_of b g c m n h in
    record { round = t.round; numbers = one_low b.lists n.core.base t.base; accepted = one_low g n.core.base t.trims }
said_packet_numbers_are_low b g m n c to p h (request _ req body a f s) = told_low b g n p (told_of b g c m n h) refl refl refl
said_packet_numbers_are_low b g m n c to p h (spread _ req body a f s) = told_low b g n p (told_of b g c m n h) refl refl refl
said_packet_numbers_are_low b g m n c to p h (ack _ a) = told_low b g n p (told_of b g c m n h) refl refl refl
said_packet_numbers_are_low b g m n c to p h (nack _ a) = told_low b g n p (told_of b g c m n h) refl refl refl
said_packet_numbers_are_low b g m n c to p h (leave_ask _ member leaves) = told_low b g n p (told_of b g c m n h) refl refl refl
said_packet_numbers_are_low b g m n c to p h (vote s v is) = told_low b g n p (told_of b g c m n h) refl refl refl
said_packet_numbers_are_low b g m n c to p h _ = record { round = h.low.rounds; numbers = none_low b.lists; accepted = none_low g }

-- ---- who is welcomed

-- a joiner's Join is accepted by the group
pub welcomed_join_le_accepted : (g : ℕ) (m n : Node) (s : ℕ) → m.core.acc ≤ g → n.core.acc ≤ g → ImageIsUpTo n.core.log.start n.core.log.image → MayWelcome m n s
    → (row_of_name (image_of_node n) s).joined ≤ g
welcomed_join_le_accepted g m n s old new image (just_joined number is high low at) =
    let all = (row_of_up_to_number (top n) (image_of_node n) s (told_image_up_to_top n.core.log image)).joined in
    omega arith
welcomed_join_le_accepted g m n s old new image (asks_again same life some stays low more) =
    let there : row_at_place (image_of_node n) s ≡ row_at_place (image_of_node m) s = ap (λ (l : Log). row_at_place (image_of_log l) s) same in
    let low_ : (row_at_place (image_of_node n) s).joined ≤ g = rw there (omega arith) in
    split_on_bool ((row_at_place (image_of_node n) s).life == life_of_name s)
    (λ t. rw t low_)
    (λ f. rw f (omega arith))
