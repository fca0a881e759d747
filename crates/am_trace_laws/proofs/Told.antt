-- What a record of a race tells: the step of its name in the world of which the records before it tell.
use Rattle.am_trace_laws.proofs.ScriptWords.{◌≡◌, ℕ, Bool, true, false, true≢false, if◌then◌else◌, List, [], ◌∷◌, ◌++◌, length, drop, refl, sym, ap, ◌∙◌}
use Rattle.am_trace_laws.proofs.ScriptWords.{append_assoc, drop-append_seam, Rules, NodeEvent, place_of_name, name_of_place_and_life, Act, Record, RacePlan, acting_name_of_record, StepResult, step, World}
use Rattle.am_trace_laws.proofs.ScriptWords.{current, is_stopped, world_with_record, world_with_step, world_after_node_event, world_after_act, happens, record_of, no_caller, with_tag, EachComesNext}
use Rattle.am_trace_laws.proofs.ScriptWords.{has_stopped, IsLawfulRecord, terms_of, IsLegalWithTags, world_after, is_turn, may_end, lawful_journal_knows_its_world, current_name_has_first_life, legal_records_come_next}
use Rattle.am_base.specs.declared.outcome.Outcome.TheVariants as said

-- ---- a legal journal is a lawful one

pub legal_journal_follows_lawful : (plan : RacePlan) (calls : ℕ → List Act) (journal : List Record) → IsLegalWithTags plan calls journal → EachComesNext (IsLawfulRecord (terms_of plan)) journal
unfolding is_turn may_end
legal_journal_follows_lawful plan calls journal legal before rest r is =
    let e = legal.each before rest r is in record {
      node = e.node;
      life = e.life;
      act_ = e.act_;
      next = (legal_records_come_next plan.founding journal).0 legal.legal before rest r is;
      turn = legal.turns before rest r is;
      end_ = legal.ends before rest r is;
      stop = legal.stops before rest r is;
      hears = e.hears;
    }

-- and so is its beginning
pub follows_of_journal_front : (next : List Record → Record → Type 0) (journal before rest : List Record) → EachComesNext next journal → journal ≡ before ++ rest
    → EachComesNext next before
follows_of_journal_front next journal before rest follows is first more r e =
    follows first (more ++ rest) r (is ∙ ap (λ (l : List Record). l ++ rest) e ∙ append_assoc first (r ∷ more) rest)

-- ---- a record's step

-- the name that acts at a record
pub name_acting_at_record : Rules → List Record → Record → ℕ
name_acting_at_record rules before r = current (world_after rules before) (place_of_name r.event.node)

-- what came of a record is what came of this step
pub record RecordTellsStep (r : Record) (s : StepResult) : Type 0 where
  pub outcome : r.outcome ≡ s.outcome
  pub packets : r.packets ≡ s.letters

only_one : (xs : List Record) (a b : Record) → xs ++ a ∷ [] ≡ xs ++ b ∷ [] → a ≡ b
only_one xs a b e = ap first (sym (drop-append_seam xs (a ∷ [])) ∙ ap (drop (length xs)) e ∙ drop-append_seam xs (b ∷ []))
  where
    first : List Record → Record
    first [] = a
    first (x ∷ xs) = x

told : (w : World) (r : Record) (name : ℕ) (s : StepResult) → (happens w r.event).records ≡ w.records ++ with_tag no_caller r ∷ []
    → happens w r.event ≡ world_with_step w r.event name s → RecordTellsStep r s
unfolding world_with_step
told w r name s next did =
    let same = only_one w.records (record_of w r.event s.outcome s.letters) (with_tag no_caller r) (sym (ap (λ (v : World). v.records) did) ∙ next) in
    record { outcome = sym (ap (λ (q : Record). q.outcome) same); packets = sym (ap (λ (q : Record). q.packets) same) }

if_runs : {A : Type 0} (b : Bool) (x y : A) → b ≡ false → (if b then x else y) ≡ y
if_runs true x y e = absurd (true≢false e)
if_runs false x y e = refl

-- an act that is a step of its name's
pub record_of_act_tells_step : (plan : RacePlan) (before : List Record) (r : Record) (what : NodeEvent) → EachComesNext (IsLawfulRecord (terms_of plan)) before
    → IsLawfulRecord (terms_of plan) before r
    → ((w : World) (name : ℕ) → world_after_act w r.event name r.event.act ≡ world_after_node_event w r.event name what)
    → RecordTellsStep r (step ((world_after plan.founding before).nodes (name_acting_at_record plan.founding before r)) what)
unfolding happens name_acting_at_record
record_of_act_tells_step plan before r what follows own is =
    let w = world_after plan.founding before in
    let kn = lawful_journal_knows_its_world (terms_of plan) before follows in
    let name = current w (place_of_name r.event.node) in
    let its : name ≡ acting_name_of_record r = current_name_has_first_life plan.founding before kn (place_of_name r.event.node) ∙ ap (name_of_place_and_life (place_of_name r.event.node)) (sym own.life) in
    let runs : is_stopped w name ≡ false = kn.stopped name ∙ ap (has_stopped before) its ∙ own.stop in
    let did : happens w r.event ≡ world_with_step w r.event name (step (w.nodes name) what) = is w name
    ∙ if_runs (is_stopped w name) (world_with_record w r.event said.IsStopped) (world_with_step w r.event name (step (w.nodes name) what)) runs
    in
    told w r name (step (w.nodes name) what) own.next did
