-- What a letter tells is within its limits, where what its sender has is.
use Rattle.am_step_laws.proofs.Words.{◌≡◌, ℕ, zero, suc, ◌-◌, ◌≤◌, nat_le, List, [], ◌∷◌, length, Option, Some, None, refl, subst, arith, All, All-head, All-tail}
use Rattle.am_step_laws.proofs.Words.{most_bytes_of_body, Entry, Data, View, Report, IsSetOfNames, NumberIsInRange, ReportIsInRange, Log, log_entry_at, Packet, IsPacket, PacketIsWithin, HasParts, Node}
use Rattle.am_step_laws.proofs.Words.{top, image_of_node, members_of_view_entry, split_on_bool, Cause, hears, HasOwnSend, Says, request, spread, bcast, order, hold, welcome, vote, piece}
use Rattle.am_step_laws.proofs.Words.{result, item_of_index_has_property, stamp_of, Bounds, PacketIsWithinBounds}
use Rattle.am_packet.specs.declared.packet.Packet.TheVariants as packet
use Rattle.am_step_laws.proofs.Bounds.Limits.{EntryIsWithinLimits, BoundsAreNumbers, nobody_is_set, members_of_image_are_set, told_image_is_within_limits, image_at_is_within_limits, entry_within_limits_is_entry, image_within_limits_is_image}
use Rattle.am_step_laws.proofs.Bounds.NodeLimits.{SendIsWithinLimits, NodeIsWithinLimits, PacketIsWithinLimits, brought_request_is_within_bound}
use Rattle.am_step_laws.proofs.Numbers.Images.{told_image_up_to_top}
use Rattle.am_step_laws.proofs.Numbers.ListImages.{WelcomeImageUpToBase, FirstImageUpToStart}

-- ---- what is sent

own_send_within : (b : Bounds) (n : Node) (req : ℕ) (body : List ℕ) → HasOwnSend n req body → NodeIsWithinLimits b n
    → SendIsWithinLimits b (record { req = req; body = body; number = None })
own_send_within b n req body s h =
    let k = item_of_index_has_property (SendIsWithinLimits b) n.sends.queue s.index s.send h.sends s.there in
    record { req = subst (λ r. r ≤ b.requests) s.request k.req; body = subst (λ (x : List ℕ). length x ≤ most_bytes_of_body) s.body_ k.body }

viewed_by_set : (b : Bounds) (o : Option Entry) → ((e : Entry) → o ≡ Some e → EntryIsWithinLimits b e) → IsSetOfNames (members_of_view_entry o)
viewed_by_set b (Some (View v)) h = (h (View v) refl).1
viewed_by_set b _ h = nobody_is_set

at_within : (b : Bounds) (log : Log) (number : ℕ) (e : Entry) → All (EntryIsWithinLimits b) log.entries → log_entry_at log number ≡ Some e → EntryIsWithinLimits b e
at_within b log zero e h is = absurd (cc)
at_within b log (suc before) e h is = split_on_bool (nat_le log.start before)
    (λ t. item_of_index_has_property (EntryIsWithinLimits b) log.entries (before - log.start) e h (rw t at is))
    (λ f. absurd (let x = rw f at is in cc))

pub said_packet_is_within_limits : (b : Bounds) (m n : Node) (c : Cause) (to : List ℕ) (p : Packet) → NodeIsWithinLimits b n → FirstImageUpToStart n → top n ≤ b.lists
    → ((q : Packet) → c ≡ hears q → PacketIsWithinLimits b q) → Says m c n to p → PacketIsWithinLimits b p
said_packet_is_within_limits b m n c to p h up_ low heard (request _ req body a f s) = let k = own_send_within b n req body s h in (k.req, k.body)
said_packet_is_within_limits b m n c to p h up_ low heard (spread _ req body a f s) = let k = own_send_within b n req body s h in (k.req, k.body)
said_packet_is_within_limits b m n c to p h up_ low heard (bcast _ number e l s) = item_of_index_has_property (EntryIsWithinLimits b) n.core.log.entries s.index e h.entries s.there
said_packet_is_within_limits b m n c to p h up_ low heard (order _ number from req v report body is l s) =
    (item_of_index_has_property (EntryIsWithinLimits b) n.core.log.entries s.index (Data from req body) h.entries s.there).0
said_packet_is_within_limits b m n c to p h up_ low heard (hold _ s v report req body by l) = brought_request_is_within_bound b c s v report req body by heard
said_packet_is_within_limits b m n c to p h up_ low heard (welcome s l may) = image_at_is_within_limits b n.core.log n.core.base h.entries h.image
said_packet_is_within_limits b m n c to p h up_ low heard (vote s v is) = let k = told_image_is_within_limits b n.core.log h.entries h.image in (members_of_image_are_set b (image_of_node n) k, k.round)
said_packet_is_within_limits b m n c to p h up_ low heard (piece s v stored number e is may at) = item_of_index_has_property (EntryIsWithinLimits b) n.core.log.entries at.index e h.entries at.there
said_packet_is_within_limits b m n c to p h up_ low heard (result _ number names is viewed may) =
    let k = told_image_is_within_limits b n.core.log h.entries h.image in
    let v = (told_image_up_to_top n.core.log up_).view in
    (omega arith, subst IsSetOfNames viewed (viewed_by_set b (log_entry_at n.core.log number) (λ e at. at_within b n.core.log number e h.entries at)), k.resilience)
said_packet_is_within_limits b m n c to p h up_ low heard _ = tt

-- ---- packets

-- numbers up to bounds that are numbers
first_of : (b : Bounds) (x : ℕ) (xs : List ℕ) → BoundsAreNumbers b → All (λ n. n ≤ b.lists) (x ∷ xs) → NumberIsInRange x
first_of b x xs n h = let l = n.lists in let k = All-head (λ n. n ≤ b.lists) x xs h in omega arith

two_of : (b : Bounds) (x y : ℕ) → BoundsAreNumbers b → All (λ n. n ≤ b.lists) (x ∷ y ∷ []) → NumberIsInRange x × NumberIsInRange y
two_of b x y n h = (first_of b x (y ∷ []) n h, first_of b y [] n (All-tail (λ n. n ≤ b.lists) x (y ∷ []) h))

three_of : (b : Bounds) (x y z : ℕ) → BoundsAreNumbers b → All (λ n. n ≤ b.lists) (x ∷ y ∷ z ∷ []) → NumberIsInRange x × NumberIsInRange y × NumberIsInRange z
three_of b x y z n h = let k = two_of b y z n (All-tail (λ n. n ≤ b.lists) x (y ∷ z ∷ []) h) in (first_of b x (y ∷ z ∷ []) n h, k.0, k.1)

is_report : (b : Bounds) (report : Report) → BoundsAreNumbers b → All (λ n. n ≤ b.lists) (report.stored ∷ report.taken ∷ []) → ReportIsInRange report
is_report b report n h = let k = two_of b report.stored report.taken n h in record { stored = k.0; taken = k.1 }

-- what a packet is within
pub record PacketIsLimited (b : Bounds) (g : ℕ) (p : Packet) : Type 0 where
  pub up_to : PacketIsWithinBounds b g p
  pub within : PacketIsWithinLimits b p
  pub welcome : WelcomeImageUpToBase p

is_round : (b : Bounds) (g : ℕ) (p : Packet) → BoundsAreNumbers b → PacketIsWithinBounds b g p → NumberIsInRange (stamp_of p).round
is_round b g p n h = let r = h.round in let k = n.rounds in omega arith

is_request : (b : Bounds) (req : ℕ) → BoundsAreNumbers b → req ≤ b.requests → NumberIsInRange req
is_request b req n h = let k = n.requests in omega arith

pub limited_packet_is_packet : (b : Bounds) (g : ℕ) (p : Packet) → BoundsAreNumbers b → PacketIsLimited b g p → IsPacket p
unfolding PacketIsWithin HasParts
limited_packet_is_packet b g (packet.Request s v report req body) n h =
    let round = is_round b g (packet.Request s v report req body) n h.up_to in
    let report_ = is_report b report n h.up_to.numbers in
    record { within = (round, (report_, is_request b req n h.within.0)); parts = h.within.1 }
limited_packet_is_packet b g (packet.Spread s v report req body) n h =
    let round = is_round b g (packet.Spread s v report req body) n h.up_to in
    let report_ = is_report b report n h.up_to.numbers in
    record { within = (round, (report_, is_request b req n h.within.0)); parts = h.within.1 }
limited_packet_is_packet b g (packet.Bcast s v base acc number e) n h =
    let round = is_round b g (packet.Bcast s v base acc number e) n h.up_to in
    let k = three_of b base acc number n h.up_to.numbers in let x = entry_within_limits_is_entry b e n h.within in
    record { within = (round, (k.0, k.1, k.2, x.0)); parts = x.1 }
limited_packet_is_packet b g (packet.Order s v base acc number from req) n h =
    let round = is_round b g (packet.Order s v base acc number from req) n h.up_to in
    let k = three_of b base acc number n h.up_to.numbers in
    record { within = (round, (k.0, k.1, k.2, is_request b req n h.within)); parts = tt }
limited_packet_is_packet b g (packet.Accept s v base acc high poll) n h =
    let round = is_round b g (packet.Accept s v base acc high poll) n h.up_to in
    let k = three_of b base acc high n h.up_to.numbers in
    record { within = (round, (k.0, k.1, k.2)); parts = tt }
limited_packet_is_packet b g (packet.Ack s v report) n h =
    record { within = (is_round b g (packet.Ack s v report) n h.up_to, is_report b report n h.up_to.numbers); parts = tt }
limited_packet_is_packet b g (packet.Nack s v report) n h =
    record { within = (is_round b g (packet.Nack s v report) n h.up_to, is_report b report n h.up_to.numbers); parts = tt }
limited_packet_is_packet b g (packet.Hold s v base high req) n h =
    let round = is_round b g (packet.Hold s v base high req) n h.up_to in
    let k = two_of b base high n h.up_to.numbers in
    record { within = (round, (k.0, k.1, is_request b req n h.within)); parts = tt }
limited_packet_is_packet b g (packet.Welcome s v base join image) n h =
    let round = is_round b g (packet.Welcome s v base join image) n h.up_to in
    let k = two_of b base join n h.up_to.numbers in
    record {
      within = (round, (k.0, k.1, image_within_limits_is_image b base image n (All-head (λ n. n ≤ b.lists) base (join ∷ []) h.up_to.numbers) h.welcome h.within));
      parts = h.within.places;
    }
limited_packet_is_packet b g (packet.LeaveAsk s v report) n h =
    record { within = (is_round b g (packet.LeaveAsk s v report) n h.up_to, is_report b report n h.up_to.numbers); parts = tt }
limited_packet_is_packet b g (packet.Gone s v number) n h =
    let round = is_round b g (packet.Gone s v number) n h.up_to in
    record { within = (round, first_of b number [] n h.up_to.numbers); parts = tt }
limited_packet_is_packet b g (packet.Vote s v shown) n h =
    let round = is_round b g (packet.Vote s v shown) n h.up_to in
    let k = two_of b shown.top shown.taken n h.up_to.numbers in
    record { within = (round, record { view = omega arith; top = k.0; taken = k.1 }); parts = h.within.0 }
limited_packet_is_packet b g (packet.Fetch s v stored) n h =
    let round = is_round b g (packet.Fetch s v stored) n h.up_to in
    record { within = (round, first_of b stored [] n h.up_to.numbers); parts = tt }
limited_packet_is_packet b g (packet.Piece s v base number e) n h =
    let round = is_round b g (packet.Piece s v base number e) n h.up_to in
    let k = two_of b base number n h.up_to.numbers in let x = entry_within_limits_is_entry b e n h.within in
    record { within = (round, (k.0, k.1, x.0)); parts = x.1 }
limited_packet_is_packet b g (packet.Result s base number v) n h =
    let round = is_round b g (packet.Result s base number v) n h.up_to in
    let w = h.within in
    record { within = (round, (first_of b base [] n h.up_to.numbers, omega arith, w.2)); parts = w.1 }
limited_packet_is_packet b g p n h = record { within = (is_round b g p n h.up_to, tt); parts = tt }
