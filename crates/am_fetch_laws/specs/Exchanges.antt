-- How a member that fetches comes to its sequencer's view, where their letters aren't lost.
use Rattle.std.specs.Prelude.{◌≡◌, ℕ, zero, suc, ◌+◌, ◌-◌, ◌*◌, ◌<◌, ◌≤◌, ◌⊎◌, List, [], ◌∷◌, ◌++◌, Some, true, false, if◌then◌else◌}
use Rattle.am_base.specs.declared.entry.Entry.{Entry}
use Rattle.am_base.specs.declared.event.NodeEvent.TheVariants as does
use Rattle.am_base.specs.Lists.{Log, top_of_log, image_of_log, log_entry_at, log_image_at, fits, row_of_name}
use Rattle.am_packet.specs.Boxes.{Letter}
use Rattle.am_group.specs.Addressed.{is_for}
use Rattle.am_model.specs.Node.{Node, top, view, image_of_node, acts_in_its_view, is_sequencer}
use Rattle.am_model.specs.Refresh.{refresh_at_end}
use Rattle.am_model.specs.Step.{step, hear_packet}
use Rattle.am_model.specs.Resets.{is_unfetchable_view}
use Rattle.am_fetch_laws.specs.Fetching.{IsBehind}

-- ---- an exchange

pub record TwoNodes : Type 0 where
  pub sequencer : Node
  pub member_ : Node

-- a node after it heard those of these letters that are for it, and what it sent
pub record Heard : Type 0 where
  pub node : Node
  pub letters : List Letter

unfoldable pub hear_letters : Node → List Letter → Heard
hear_letters m [] = record { node = m; letters = [] }
hear_letters m (l ∷ ls) =
    if is_for l m.core.who then
    (let s = hear_packet m l.packet in let rest = hear_letters s.node ls in record { node = rest.node; letters = s.letters ++ rest.letters })
    else hear_letters m ls

-- the member's tick, the sequencer hears what comes of it, and the member hears what comes of that
abbrev pub exchange : TwoNodes → TwoNodes
exchange t =
    let asked = step t.member_ does.Tick in
    let served = hear_letters t.sequencer asked.letters in
    record { sequencer = served.node; member_ = (hear_letters asked.node served.letters).node }

unfoldable pub exchanges : ℕ → TwoNodes → TwoNodes
exchanges zero t = t
exchanges (suc left) t = exchanges left (exchange t)

-- ---- claims

-- A Member that is behind a list, which its own begins. It has promised the list's view, whose View stands there. Up to there the entries fit,
-- and the member doesn't leave. It has taken all up to a base, and no entry up to the View is above the bound of that.
pub record MayCatchUpWith (log : Log) (base : ℕ) (m : Node) : Type 0 where
  pub behind : IsBehind m
  pub promised : m.core.promise ≡ (image_of_log log).view
  pub missing : top m < (image_of_log log).view_number
  pub reached : (image_of_log log).view_number ≤ top_of_log log
  pub kept : log.start ≤ top m
  pub told_ : image_of_node m ≡ log_image_at log (top m)
  pub viewed : (log_image_at log (image_of_log log).view_number).view ≡ (image_of_log log).view
  pub fit : (number : ℕ) (e : Entry) → number ≤ (image_of_log log).view_number → log_entry_at log number ≡ Some e
      → (fits (log_image_at log (number - 1)) e ≡ true) × (is_unfetchable_view (image_of_log log).view false e ≡ false)
  pub stays : (number : ℕ) → top m ≤ number → number < (image_of_log log).view_number → (row_of_name (log_image_at log number) m.core.who).left ≡ 0
  pub trimmed : base ≤ m.core.taken
  pub low : base ≤ top m
  pub room : (image_of_log log).view_number - base ≤ m.core.rules.window + 15

-- a sequencer and such a member, which has taken what the sequencer will have trimmed at the end of a step
pub record MayCatchUp (q m : Node) : Type 0 where
  pub leads : is_sequencer q ≡ true
  pub list : MayCatchUpWith q.core.log (refresh_at_end q).core.base m

-- it acts in the sequencer's view
pub record ActsInViewOf (q m : Node) : Type 0 where
  pub acts : acts_in_its_view m ≡ true
  pub view_ : view m ≡ view q

-- it has eight entries more, and may go on so
pub record HasEightMore (old : Node) (t : TwoNodes) : Type 0 where
  pub more : top old + 8 ≤ top t.member_
  pub goes_on : MayCatchUp t.sequencer t.member_

abbrev pub ExchangesBringEntries : Type 0
ExchangesBringEntries = (t : TwoNodes) → MayCatchUp t.sequencer t.member_
    → ActsInViewOf t.sequencer (exchange t).member_ ⊎ HasEightMore t.member_ (exchange t)

-- in as many exchanges as bring all up to the View, it comes to act there
abbrev pub ExchangesReachView : Type 0
ExchangesReachView = (t : TwoNodes) (many : ℕ) → MayCatchUp t.sequencer t.member_ → (image_of_node t.sequencer).view_number ≤ top t.member_ + 8 * many
    → (n : ℕ) × (n ≤ many) × ActsInViewOf t.sequencer (exchanges n t).member_
