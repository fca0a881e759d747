-- What a run without a ballot keeps. The whole list is that of the first founder, which is the sequencer; so much of it is accepted.
use Rattle.am_run_laws.proofs.UnballotedWords.{◌≡◌, ◌≢◌, ℕ, ◌-◌, ◌<◌, ◌≤◌, true, false, List, ◌++◌, length, take, Option, Some, None, sym, ap, ◌∙◌, arith, All}
use Rattle.am_run_laws.proofs.UnballotedWords.{take-append-le, All-weaker, Stamp, Image, Entry, Data, Join, View, Rules, has, Log, top_of_log, CoreState, Packet, Bcast}
use Rattle.am_run_laws.proofs.UnballotedWords.{Order, Accept, Welcome, Invite, Vote, Piece, Result, Letter, is_for, item_at, OwnSend, Status, Node, founding_stamp}
use Rattle.am_run_laws.proofs.UnballotedWords.{has_log_by_status, Cause, hears, image_of_list}
use Rattle.am_run_laws.proofs.Lists.{item_at_of_appended, EntriesAreWithinWhole, entries_within_longer_whole}

-- the founder whose view it is
abbrev pub first_founder_of : Rules → ℕ
first_founder_of rules = (founding_stamp rules).by

-- an entry stands at a number that is accepted
pub record AcceptedStandsAt (list : List Entry) (acc number : ℕ) (e : Entry) : Type 0 where
  pub low : number ≤ acc
  pub there : item_at list number ≡ Some e

-- ---- a node

-- its list is the whole one's from its start on, as far as it goes
pub record ListIsOfTheWhole (list : List Entry) (acc : ℕ) (log : Log) : Type 0 where
  pub start : log.start ≤ acc
  pub image : log.image ≡ image_of_list (take log.start list)
  pub within : EntriesAreWithinWhole list log.start log.entries

-- its numbers stand in their order, and it passes over what is below its Join as soon as that is accepted
pub record UnballotedFrontsAreInOrder (first acc i : ℕ) (core : CoreState) : Type 0 where
  pub accepted : core.acc ≤ acc
  pub within : core.acc ≤ top_of_log core.log
  pub taken : core.taken ≤ core.acc
  pub base : core.log.start ≤ core.base
  pub told : i ≢ first → core.told ≤ acc
  pub passed : core.taken < core.start - 1 → core.acc ≤ core.taken

pub unballoted_fronts_are_in_order : (first acc i : ℕ) (core : CoreState) → core.acc ≤ acc → core.acc ≤ top_of_log core.log → core.taken ≤ core.acc → core.log.start ≤ core.base
    → (i ≢ first → core.told ≤ acc) → (core.taken < core.start - 1 → core.acc ≤ core.taken) → UnballotedFrontsAreInOrder first acc i core
unballoted_fronts_are_in_order first acc i core accepted within taken base told passed =
    record { accepted = accepted; within = within; taken = taken; base = base; told = told; passed = passed }

-- where its list begins: a founder's at 1, a joiner's at its Join
pub record ListBeginsAtJoin (rules : Rules) (list : List Entry) (acc i start : ℕ) : Type 0 where
  pub some : 0 < start
  pub founder : has rules.founders i ≡ true → start ≡ 1
  pub joiner : has rules.founders i ≡ false → AcceptedStandsAt list acc start (Join i)

pub record StatusFitsItsBeginning (rules : Rules) (list : List Entry) (acc i : ℕ) (status : Status) (core : CoreState) : Type 0 where
  pub promise : has_log_by_status status ≡ true → core.promise ≡ founding_stamp rules
  pub founder : has rules.founders i ≡ true → has_log_by_status status ≡ true
  pub blank : has_log_by_status status ≡ false → (core.taken ≡ 0) × (core.start ≡ 0)
  pub begins : has_log_by_status status ≡ true → ListBeginsAtJoin rules list acc i core.start

-- a send that is settled stands at its number
abbrev pub SettledSendStands : List Entry → ℕ → ℕ → ℕ → Option ℕ → Type 0
SettledSendStands list acc i req None = Unit {0}
SettledSendStands list acc i req (Some number) = (body : List ℕ) × AcceptedStandsAt list acc number (Data i req body)

abbrev pub OwnSendIsSettledRight : List Entry → ℕ → ℕ → OwnSend → Type 0
OwnSendIsSettledRight list acc i s = SettledSendStands list acc i s.req s.number

pub record UnballotedNodeKeeps (rules : Rules) (list : List Entry) (acc i : ℕ) (m : Node) : Type 0 where
  pub who : m.core.who ≡ i
  pub log : ListIsOfTheWhole list acc m.core.log
  pub fronts : UnballotedFrontsAreInOrder (first_founder_of rules) acc i m.core
  pub status : StatusFitsItsBeginning rules list acc i m.status m.core
  pub sends : All (OwnSendIsSettledRight list acc i) m.sends.queue

-- ---- a packet, for the name that hears it

-- a joiner's list begins with what stands up to the base, and its Join is accepted
pub record WelcomeTellsWholeListFront (rules : Rules) (list : List Entry) (acc i : ℕ) (v : Stamp) (base join : ℕ) (image : Image) : Type 0 where
  pub stamp : v ≡ founding_stamp rules
  pub low : join ≤ acc
  pub tells : base < join → image ≡ image_of_list (take base list)
  pub joined : has rules.founders i ≡ false → item_at list join ≡ Some (Join i)

abbrev pub UnballotedPacketSays : Rules → List Entry → ℕ → ℕ → Packet → Type 0
UnballotedPacketSays rules list acc i (Bcast s v base a number e) = (a ≤ acc) × (item_at list number ≡ Some e)
UnballotedPacketSays rules list acc i (Order s v base a number from req) = (a ≤ acc) × (body : List ℕ) × (item_at list number ≡ Some (Data from req body))
UnballotedPacketSays rules list acc i (Accept s v base a high poll) = a ≤ acc
UnballotedPacketSays rules list acc i (Welcome s v base join image) = WelcomeTellsWholeListFront rules list acc i v base join image
UnballotedPacketSays rules list acc i (Invite s v) = ⊥
UnballotedPacketSays rules list acc i (Vote s v vote) = ⊥
UnballotedPacketSays rules list acc i (Piece s v base number e) = item_at list number ≡ Some e
UnballotedPacketSays rules list acc i (Result s base number v) = (v.stamp ≡ founding_stamp rules) × (item_at list number ≡ Some (View v))
UnballotedPacketSays rules list acc i _ = Unit {0}

pub record UnballotedLetterSays (rules : Rules) (list : List Entry) (acc : ℕ) (letter : Letter) : Type 0 where
  pub heard : (i : ℕ) → is_for letter i ≡ true → UnballotedPacketSays rules list acc i letter.packet

abbrev pub UnballotedCauseSays : Rules → List Entry → ℕ → ℕ → Cause → Type 0
UnballotedCauseSays rules list acc i (hears p) = UnballotedPacketSays rules list acc i p
UnballotedCauseSays rules list acc i _ = Unit {0}

-- ---- the list goes on, and more of it is accepted

pub accepted_stands_in_longer_list : (list more : List Entry) (acc to number : ℕ) (e : Entry) → acc ≤ to → AcceptedStandsAt list acc number e → AcceptedStandsAt (list ++ more) to number e
accepted_stands_in_longer_list list more acc to number e up h = record { low = let low = h.low in omega arith; there = item_at_of_appended list more number e h.there }

settled_more : (list more : List Entry) (acc to i req : ℕ) (number : Option ℕ) → acc ≤ to → SettledSendStands list acc i req number
    → SettledSendStands (list ++ more) to i req number
settled_more list more acc to i req None up h = tt
settled_more list more acc to i req (Some number) up h = (h.0, accepted_stands_in_longer_list list more acc to number (Data i req h.0) up h.1)

list_more : (list more : List Entry) (acc to : ℕ) (log : Log) → acc ≤ to → ListIsOfTheWhole list acc log → ListIsOfTheWhole (list ++ more) to log
list_more list more acc to log up h = record {
  start = let low = h.start in omega arith;
  image = h.image ∙ ap image_of_list (sym (take-append-le log.start list more h.within.low));
  within = entries_within_longer_whole list more log.start log.entries h.within;
}

pub list_begins_in_longer_list : (rules : Rules) (list more : List Entry) (acc to i start : ℕ) → acc ≤ to → ListBeginsAtJoin rules list acc i start
    → ListBeginsAtJoin rules (list ++ more) to i start
list_begins_in_longer_list rules list more acc to i start up h =
    assumption (λ (f : has rules.founders i ≡ false). accepted_stands_in_longer_list list more acc to start (Join i) up (h.joiner f))

pub sends_settled_in_longer_list : (list more : List Entry) (acc to i : ℕ) (queue : List OwnSend) → acc ≤ to → All (OwnSendIsSettledRight list acc i) queue
    → All (OwnSendIsSettledRight (list ++ more) to i) queue
sends_settled_in_longer_list list more acc to i queue up h = All-weaker (OwnSendIsSettledRight list acc i) (OwnSendIsSettledRight (list ++ more) to i)
    (λ s. settled_more list more acc to i s.req s.number up) queue h

status_more : (rules : Rules) (list more : List Entry) (acc to i : ℕ) (status : Status) (core : CoreState) → acc ≤ to
    → StatusFitsItsBeginning rules list acc i status core → StatusFitsItsBeginning rules (list ++ more) to i status core
status_more rules list more acc to i status core up h =
    assumption (λ (t : has_log_by_status status ≡ true). list_begins_in_longer_list rules list more acc to i core.start up (h.begins t))

pub unballoted_node_in_longer_list : (rules : Rules) (list more : List Entry) (acc to i : ℕ) (m : Node) → acc ≤ to → UnballotedNodeKeeps rules list acc i m → UnballotedNodeKeeps rules (list ++ more) to i m
unballoted_node_in_longer_list rules list more acc to i m up h =
    let f = h.fronts in
    let accepted : m.core.acc ≤ to = let a = f.accepted in omega arith in
    let told : i ≢ first_founder_of rules → m.core.told ≤ to = λ d. (let a = f.told d in omega arith) in
    assumption (
      accepted,
      told,
      list_more list more acc to m.core.log up h.log,
      status_more rules list more acc to i m.status m.core up h.status,
      sends_settled_in_longer_list list more acc to i m.sends.queue up h.sends,
    )

packet_more : (rules : Rules) (list more : List Entry) (acc to i : ℕ) (p : Packet) → acc ≤ length list → acc ≤ to → UnballotedPacketSays rules list acc i p
    → UnballotedPacketSays rules (list ++ more) to i p
packet_more rules list more acc to i (Bcast s v base a number e) low up h = (let b = h.0 in omega arith, item_at_of_appended list more number e h.1)
packet_more rules list more acc to i (Order s v base a number from req) low up h =
    (let b = h.0 in omega arith, h.1, item_at_of_appended list more number (Data from req h.1) h.2)
packet_more rules list more acc to i (Accept s v base a high poll) low up h = omega arith
packet_more rules list more acc to i (Welcome s v base join image) low up h = record {
  stamp = h.stamp;
  low = let a = h.low in omega arith;
  tells = λ b. (let a = h.low in let z : base ≤ length list = omega arith in h.tells b ∙ ap image_of_list (sym (take-append-le base list more z)));
  joined = λ f. item_at_of_appended list more join (Join i) (h.joined f);
}
packet_more rules list more acc to i (Invite s v) low up h = absurd h
packet_more rules list more acc to i (Vote s v vote) low up h = absurd h
packet_more rules list more acc to i (Piece s v base number e) low up h = item_at_of_appended list more number e h
packet_more rules list more acc to i (Result s base number v) low up h = (h.0, item_at_of_appended list more number (View v) h.1)
packet_more rules list more acc to i _ low up h = tt

pub unballoted_letter_in_longer_list : (rules : Rules) (list more : List Entry) (acc to : ℕ) (letter : Letter) → acc ≤ length list → acc ≤ to → UnballotedLetterSays rules list acc letter
    → UnballotedLetterSays rules (list ++ more) to letter
unballoted_letter_in_longer_list rules list more acc to letter low up h = record { heard = λ i f. packet_more rules list more acc to i letter.packet low up (h.heard i f) }
