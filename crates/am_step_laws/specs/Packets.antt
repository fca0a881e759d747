-- How high the numbers of a packet are.
use Rattle.std.specs.Prelude.{ℕ, ◌+◌, ◌≤◌, List, [], ◌∷◌, All}
use Rattle.am_packet.specs.Spelling.{stamp_of}
use Rattle.am_packet.specs.declared.packet.Packet.{Packet}
use Rattle.am_packet.specs.declared.packet.Packet.TheVariants.{Request, Spread, Bcast, Order, Accept, Ack, Nack, Hold, Welcome, LeaveAsk, Gone, Vote, Fetch}
use Rattle.am_packet.specs.declared.packet.Packet.TheVariants.{Piece, Result}

-- the numbers of entries that it tells, but for that of a View
abbrev pub entry_numbers_of : Packet → List ℕ
entry_numbers_of (Request s v report req body) = report.stored ∷ report.taken ∷ []
entry_numbers_of (Spread s v report req body) = report.stored ∷ report.taken ∷ []
entry_numbers_of (Bcast s v base acc number e) = base ∷ acc ∷ number ∷ []
entry_numbers_of (Order s v base acc number from req) = base ∷ acc ∷ number ∷ []
entry_numbers_of (Accept s v base acc high poll) = base ∷ acc ∷ high ∷ []
entry_numbers_of (Ack s v report) = report.stored ∷ report.taken ∷ []
entry_numbers_of (Nack s v report) = report.stored ∷ report.taken ∷ []
entry_numbers_of (Hold s v base high req) = base ∷ high ∷ []
entry_numbers_of (Welcome s v base join image) = base ∷ join ∷ []
entry_numbers_of (LeaveAsk s v report) = report.stored ∷ report.taken ∷ []
entry_numbers_of (Gone s v number) = number ∷ []
entry_numbers_of (Vote s v vote) = vote.top ∷ vote.taken ∷ []
entry_numbers_of (Fetch s v stored) = stored ∷ []
entry_numbers_of (Piece s v base number e) = base ∷ number ∷ []
entry_numbers_of (Result s base number v) = base ∷ []
entry_numbers_of _ = []

-- those of its numbers that tell what is accepted, or was taken
abbrev pub accepted_of : Packet → List ℕ
accepted_of (Request s v report req body) = report.taken ∷ []
accepted_of (Spread s v report req body) = report.taken ∷ []
accepted_of (Bcast s v base acc number e) = acc ∷ []
accepted_of (Order s v base acc number from req) = acc ∷ []
accepted_of (Accept s v base acc high poll) = acc ∷ []
accepted_of (Ack s v report) = report.taken ∷ []
accepted_of (Nack s v report) = report.taken ∷ []
accepted_of (Welcome s v base join image) = base ∷ join ∷ []
accepted_of (LeaveAsk s v report) = report.taken ∷ []
accepted_of (Vote s v vote) = vote.taken ∷ []
accepted_of (Piece s v base number e) = base ∷ []
accepted_of (Result s base number v) = base ∷ []
accepted_of _ = []

-- how many entries lists have at most, how high rounds are, and how many sends a node queues
pub record Bounds : Type 0 where
  pub lists : ℕ
  pub rounds : ℕ
  pub requests : ℕ

-- one more of each
abbrev pub bounds_one_higher : Bounds → Bounds
bounds_one_higher b = record { lists = b.lists + 1; rounds = b.rounds + 1; requests = b.requests + 1 }

-- its round and its numbers are within these bounds, and what it tells of as accepted within what the group has accepted
pub record PacketIsWithinBounds (most : Bounds) (group : ℕ) (p : Packet) : Type 0 where
  pub round : (stamp_of p).round ≤ most.rounds
  pub numbers : All (λ n. n ≤ most.lists) (entry_numbers_of p)
  pub accepted : All (λ n. n ≤ group) (accepted_of p)
