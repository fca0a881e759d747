-- In every run, with the group that follows it: what a sequencer knows to be taken was taken, but for what it began with.
use Rattle.am_repair.proofs.Repairable.RepairedWords.{eqb-true, ◌≡◌, ℕ, ◌<◌, ◌==◌, true, false, List, Some, slice_get, refl, sym, ap, ◌∙◌, subst, arith, nat_tests, Image}
use Rattle.am_repair.proofs.Repairable.RepairedWords.{Stamp, Rules, has, Letter, Event, key_of_stamp, Group, Node, view, acts_in_its_view, is_sequencer, founding_stamp, has_log_by_status, StepResult, World}
use Rattle.am_repair.proofs.Repairable.RepairedWords.{start, founders_decided, first_node, is_stopped, split_on_bool, Cause, Following, PropertyIsKeptByRuns, WorldStaysQuiet, parts_of_one_step, one_step_grows_group, acting_member_promised_its_view}
use Rattle.am_repair.proofs.Nodes.{sequencer_acts_by_own_view}
use Rattle.am_packet.specs.declared.packet.Packet.TheVariants as packet
use Rattle.am_repair.proofs.Repairable.Trims.{LetterHasLowBase, OtherHasTakenBase, took, joins, halts, SequencerTrimmedTaken, GroupTrimsTaken, TrimStepWithGroup, LetterWasSentByStep}
use Rattle.am_repair.proofs.Repairable.Came.{CameToActInView, before, own, told_so}
use Rattle.am_repair.proofs.Repairable.Decided.{decided_view_settles}
use Rattle.am_repair.proofs.Repairable.Fresh.{welcome_stays_in_world}
use Rattle.am_repair.proofs.Repairable.RepairedLeading.{step_of_sequencer_settles}
use Rattle.am_repair.proofs.Repairable.Mailed.{welcome_is_said_by_sequencer}
use Rattle.am_repair.proofs.Repairable.One.{running_sequencer_leads}
use Rattle.am_repair.proofs.Repairable.Others.{step_of_other_settles}
use Rattle.am_repair.proofs.Repairable.Trims as trims

-- ---- a step

module _ (rules : Rules) (events : List Event) (e : Event) (c : Cause) (step : StepResult) (s t : Group) (x : TrimStepWithGroup rules events e c step s t) where
  open parts_of_one_step rules events e step use {w, i, m, n, v}
  open one_step_grows_group x.goes use {few as few_i, kept_t, node_v as here, others_v as there}

  came_n : acts_in_its_view n ≡ true → CameToActInView c m n
  came_n = trims.acting_after_step_came rules events e c step s t x

  -- a sequencer's promise is decided
  leads_decided : is_sequencer n ≡ true → t.views.decided (key_of_stamp n.core.promise) ≡ true
  leads_decided leads =
      let leads_v = ap is_sequencer here ∙ leads in
      let runs_v = trims.stopped_after_step_is_before rules events e c step s t x i ∙ x.runs in
      ap (λ (y : Node). t.views.decided (key_of_stamp y.core.promise)) (sym here)
      ∙ (running_sequencer_leads rules v t i x.new kept_t few_i (trims.names_of_nodes_after rules events e c step s t x i) leads_v runs_v).decided

  decided_n : acts_in_its_view n ≡ true → t.views.decided (key_of_stamp (view n)) ≡ true
  decided_n act = elim (came_n act) [
    | before was same low ↦ subst (λ u. t.views.decided (key_of_stamp u) ≡ true) (sym same)
        (trims.decided_stays_by_step rules events e c step s t x (view m) (x.trims.decided i few_i was))
    | own by above ↦
        let leads : is_sequencer n ≡ true = (let u : ((view n).by == n.core.who) ≡ true = grind (arith, nat_tests) in rw (act, u) refl) in
        subst (λ u. t.views.decided (key_of_stamp u) ≡ true) (acting_member_promised_its_view n act).1 (leads_decided leads)
    | told_so from u base tells is by other low ↦ subst (λ u_. t.views.decided (key_of_stamp u_) ≡ true) (sym is)
        (trims.decided_stays_by_step rules events e c step s t x u (trims.told_view_is_decided rules events e c step s t x from u base tells by))
  ]

  decided_v : (j : ℕ) → j < 256 → acts_in_its_view (v.nodes j) ≡ true → t.views.decided (key_of_stamp (view (v.nodes j))) ≡ true
  decided_v j few act = split_on_bool (j == i)
      (λ u.
      let node : v.nodes j ≡ n = ap v.nodes (eqb-true j i u) ∙ here in
      subst (λ y. t.views.decided (key_of_stamp (view y)) ≡ true) (sym node) (decided_n (sym (ap acts_in_its_view node) ∙ act)))
      (λ f.
      let node = there j f in
      subst (λ y. t.views.decided (key_of_stamp (view y)) ≡ true) (sym node)
      (trims.decided_stays_by_step rules events e c step s t x (view (w.nodes j)) (x.trims.decided j few (sym (ap acts_in_its_view node) ∙ act))))

  welcomes_v : (k : ℕ) (l : Letter) (from : ℕ) (u : Stamp) (base join : ℕ) (image : Image) → slice_get v.letters k ≡ Some l
      → l.packet ≡ packet.Welcome from u base join image → t.views.decided (key_of_stamp u) ≡ true
  welcomes_v k l from u base join image at is = elim (trims.letters_after_step_are_sent rules events e c step s t x k l at) [
    | trims.before k_ at_ ↦ trims.decided_stays_by_step rules events e c step s t x u (x.trims.welcomes k_ l from u base join image at_ is)
    | trims.now says ↦
        let h = welcome_is_said_by_sequencer m n c l from u base join image says is in
        subst (λ u_. t.views.decided (key_of_stamp u_) ≡ true) (sym h.stamp) (leads_decided h.leads)
  ]

  -- who leads now led before, or decided
  settles_i : is_sequencer n ≡ true → SequencerTrimmedTaken v i
  settles_i leads = elim (came_n (sequencer_acts_by_own_view n leads).0) [
    | before was same low ↦
        let by = (sequencer_acts_by_own_view n leads).1 in
        let who : n.core.who ≡ m.core.who = trims.name_of_node_after rules events e c step s t x ∙ sym (trims.names_of_nodes_before rules events e c step s t x i) in
        let mine : (view m).by ≡ m.core.who = ap (λ (u : Stamp). u.by) (sym same) ∙ by ∙ who in
        let led : is_sequencer m ≡ true = (let u : ((view m).by == m.core.who) ≡ true = grind (arith, nat_tests) in rw (was, u) refl) in
        step_of_sequencer_settles rules events e c step s t x led same
    | own by above ↦ decided_view_settles rules events e c step s t x leads above
    | told_so from u base tells is by_ other low ↦ absurd (
        let at : from ≡ n.core.who = sym by_ ∙ ap (λ (u : Stamp). u.by) (sym is) ∙ (sequencer_acts_by_own_view n leads).1 in
        let z : (from == n.core.who) ≡ true = grind (arith, nat_tests) in
        cc)
  ]

  settles_v : (q : ℕ) → q < 256 → is_sequencer (v.nodes q) ≡ true → is_stopped v q ≡ false → SequencerTrimmedTaken v q
  settles_v q few leads runs = split_on_bool (q == i)
      (λ u.
      let same = eqb-true q i u in
      subst (SequencerTrimmedTaken v) (sym same) (settles_i (ap is_sequencer (sym (ap v.nodes same ∙ here)) ∙ leads)))
      (λ f. step_of_other_settles rules events e c step s t x q few f (ap is_sequencer (sym (there q f)) ∙ leads)
      (sym (trims.stopped_after_step_is_before rules events e c step s t x q) ∙ runs))

  pub sequencer_trims_taken_by_step : GroupTrimsTaken v t
  sequencer_trims_taken_by_step = record { decided = decided_v; welcomes = welcomes_v; settles = settles_v }

-- ---- an event that changes no node

quiet_knows : (w v : World) (low q j : ℕ) → v.nodes ≡ w.nodes → v.letters ≡ w.letters → ((k : ℕ) → is_stopped w k ≡ true → is_stopped v k ≡ true)
    → OtherHasTakenBase w low (w.nodes q) j → OtherHasTakenBase v low (v.nodes q) j
quiet_knows w v low q j nodes letters stop (took most) =
    took (let a = ap (λ f. ((f q).reports j).taken) nodes in let b = ap (λ f. (f j).core.taken) nodes in omega arith)
quiet_knows w v low q j nodes letters stop (joins none under welcomes) =
    let known = ap (λ f. ((f q).reports j).taken) nodes in
    joins (ap (λ f. has_log_by_status (f j).status) nodes ∙ none) (let b = ap (λ f. (f q).core.base) nodes in omega arith)
    (λ base h.
    let z = welcomes base (welcome_stays_in_world v w j base h h.number (ap (λ (l : List Letter). slice_get l h.number) (sym letters) ∙ h.there)) in
    omega arith)
quiet_knows w v low q j nodes letters stop (halts stopped) = halts (stop j stopped)

quiet_settles : (w v : World) (q : ℕ) → v.nodes ≡ w.nodes → v.letters ≡ w.letters → ((k : ℕ) → is_stopped w k ≡ true → is_stopped v k ≡ true)
    → SequencerTrimmedTaken w q → SequencerTrimmedTaken v q
quiet_settles w v q nodes letters stop h =
    let node : (j : ℕ) → v.nodes j ≡ w.nodes j = λ j. ap (λ f. f j) nodes in
    record {
      low = h.low;
      base = (let b = ap (λ (y : Node). y.core.base) (node q) in let a = h.base in omega arith);
      acting = λ j few act same.
          (let a = h.acting j few (sym (ap acts_in_its_view (node j)) ∙ act) (sym (ap view (node j)) ∙ same ∙ ap view (node q)) in
          let b = ap (λ (y : Node). y.core.taken) (node j) in
          omega arith);
      letters = λ k l at. subst (λ y. LetterHasLowBase q (view y) h.low l.packet) (sym (node q))
          (h.letters k l (ap (λ (ls : List Letter). slice_get ls k) (sym letters) ∙ at));
      knows = λ j few other. quiet_knows w v h.low q j nodes letters stop (h.knows j few other);
    }

trims_quiet : (w v : World) (s t : Group) → WorldStaysQuiet w v s t → GroupTrimsTaken w s → GroupTrimsTaken v t
trims_quiet w v s t quiet h =
    let nodes = quiet.stays.nodes in
    let letters = quiet.stays.letters in
    let node : (j : ℕ) → v.nodes j ≡ w.nodes j = λ j. ap (λ f. f j) nodes in
    record {
      decided = λ j few act. subst (λ y. t.views.decided (key_of_stamp (view y)) ≡ true) (sym (node j))
          (quiet.grows.decided (key_of_stamp (view (w.nodes j))) (h.decided j few (sym (ap acts_in_its_view (node j)) ∙ act))).0;
      welcomes = λ k l from u base join image at is.
          (quiet.grows.decided (key_of_stamp u) (h.welcomes k l from u base join image (ap (λ (ls : List Letter). slice_get ls k) (sym letters) ∙ at) is)).0;
      settles = λ q few leads runs. quiet_settles w v q nodes letters quiet.stays.stopped
          (h.settles q few (sym (ap is_sequencer (node q)) ∙ leads)
          (split_on_bool (is_stopped w q) (λ z. absurd (let y = quiet.stays.stopped q z in cc)) (λ f. f)));
    }

-- ---- the start

start_taken : (rules : Rules) (q j : ℕ) → ((first_node rules q).reports j).taken ≡ 0
start_taken rules q j = split_on_bool (has rules.founders q)
    (λ a. rw a (split_on_bool (has rules.founders j) (λ b. rw b refl) (λ b. rw b refl)))
    (λ a. rw a refl)

start_promise : (rules : Rules) (j : ℕ) → acts_in_its_view (first_node rules j) ≡ true → (first_node rules j).core.promise ≡ founding_stamp rules
start_promise rules j = split_on_bool (has rules.founders j) (λ a. rw a (λ act. refl)) (λ a. rw a (λ act. absurd (cc)))

pub sequencer_trims_taken_at_start : (rules : Rules) (t : Group) → Following rules (start rules) t → GroupTrimsTaken (start rules) t
sequencer_trims_taken_at_start rules t f = record {
  decided = λ j few act. subst (λ u. t.views.decided (key_of_stamp u) ≡ true)
      (sym (start_promise rules j act) ∙ (acting_member_promised_its_view (first_node rules j) act).1)
      (f.stands.views.noted 0 (founders_decided rules) refl).decided;
  welcomes = λ k l from u base join image at is. absurd (cc);
  settles = λ q few leads runs. record {
    low = 0;
    base = omega arith;
    acting = λ j few_ act same. omega arith;
    letters = λ k l at. absurd (cc);
    knows = λ j few_ other. took (let z = start_taken rules q j in omega arith);
  };
}

-- ---- every run

pub sequencer_trims_taken_by_runs : (rules : Rules) → PropertyIsKeptByRuns GroupTrimsTaken rules
sequencer_trims_taken_by_runs rules = record {
  by_step = λ {events = events} {e = e} {c = c} {step = step} {s = s} {t = t} x h.
      sequencer_trims_taken_by_step rules events e c step s t (record { goes = x; trims = h });
  by_quiet = λ w v s t q h. trims_quiet w v s t q h;
}
