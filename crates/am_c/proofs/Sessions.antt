-- A session from call to call.
use Rattle.std.proofs.Common.{◌≡◌, ℕ, ◌≤◌, List, [], ◌∷◌, ◌++◌, length, drop, Result, Ok, Err, OnOk, Option, Some, None, false, refl, sym, ap, ◌∙◌, subst}
use Rattle.am_base.specs.Founding.{Rules}
use Rattle.am_model.specs.Node.{Node}
use Rattle.am_model.specs.Ends.{IsEndOf}
use Rattle.am_group_defs.specs.World.{first_node}
use Rattle.am_node_lines.specs.Answers.{Answer, line_answer}
use Rattle.am_node_lines.specs.Speaking.{node_after, whole_from}
use Rattle.am_node_lines.specs.Speakers.{speaking, AnswersBy}
use Rattle.am_node_lines.proofs.Lines.{answer_of_cut_line}
use Rattle.am_node_lines.proofs.Talks.{talk_begins_with_first_node}
use Rattle.am_bytes.specs.Answers.{event_answer}
use Rattle.am_bytes.proofs.Cuts.{answer_to_cut_bytes}
use Rattle.am_c.specs.declared.session.AskForm.{AskForm}
use Rattle.am_c.specs.declared.session.AskForm.TheVariants.{Line, Event}
use Rattle.am_c.specs.declared.session.Session.{Session}
use Rattle.am_c.specs.declared.session.SessionStage.{SessionStage}
use Rattle.am_c.specs.declared.session.SessionStage.TheVariants.{Ready, Waits, Spent}
use Rattle.am_c.specs.Sessions.{AskedOfNode, kept, session_answer, answer_for, node_behind, answer_behind, made_in, made_of, MadeBy, SessionIsReady, IsWaiting, IsBehind, IsWritten}

-- ---- what was asked

behind_more : (rules : Rules) (m : Node) (before later : List AskedOfNode) → node_behind rules m (before ++ later) ≡ node_behind rules (node_behind rules m before) later
unfolding node_behind
behind_more rules m [] later = refl
behind_more rules m (first ∷ before) later = behind_more rules (answer_for rules m first).node before later

-- what is too long is answered as its beginning is
cut : (form : AskForm) (rules : Rules) (m : Node) (bytes : List ℕ) → session_answer form rules m (kept bytes) ≡ session_answer form rules m bytes
cut Line rules m bytes = answer_of_cut_line rules m bytes
cut Event rules m bytes = answer_to_cut_bytes m bytes

-- ---- the beginning

pub first_session_is_ready : (s : Session) (rules : Rules) (name : ℕ) → s.stage ≡ Ready → (speaking s.speaker).rules ≡ rules → (speaking s.speaker).failed ≡ false
    → (speaking s.speaker).node ≡ first_node rules name → SessionIsReady s rules name []
unfolding whole_from node_after node_behind
first_session_is_ready s rules name stage founded ready first =
    record { stage = stage; founded = founded; node = (talk_begins_with_first_node rules name None (speaking s.speaker) [] founded ready first refl).node }

-- ---- an answer is made

line_made : {E : Type 0} (done : Result (Unit {0}) E) (rules : Rules) (old new : Node) (shown before after bytes : List ℕ) → before ≡ []
    → OnOk done (AnswersBy (λ m. line_answer rules m shown) old before new after)
    → OnOk done ((all : Node) → IsEndOf all old → MadeBy (made_in Line after bytes) new (session_answer Line rules all shown))
line_made (Ok done) rules old new shown before after bytes none h = λ all end. record {
  text = (h all end).0 ∙ ap (λ (b : List ℕ). b ++ (line_answer rules all shown).text) none;
  end = (h all end).1;
}
line_made (Err lack) rules old new shown before after bytes none h = tt

event_made : {E : Type 0} (done : Result (Unit {0}) E) (rules : Rules) (old new : Node) (shown before after text : List ℕ) → before ≡ []
    → OnOk done (AnswersBy (λ m. event_answer m shown) old before new after)
    → OnOk done ((all : Node) → IsEndOf all old → MadeBy (made_in Event text after) new (session_answer Event rules all shown))
event_made (Ok done) rules old new shown before after text none h = λ all end. record {
  text = (h all end).0 ∙ ap (λ (b : List ℕ). b ++ (event_answer all shown).text) none;
  end = (h all end).1;
}
event_made (Err lack) rules old new shown before after text none h = tt

pub line_asked_made_answer : {E : Type 0} (done : Result (Unit {0}) E) (form : AskForm) (rules : Rules) (old new : Node) (shown before after bytes : List ℕ) → form ≡ Line
    → before ≡ [] → OnOk done (AnswersBy (λ m. line_answer rules m shown) old before new after)
    → OnOk done ((all : Node) → IsEndOf all old → MadeBy (made_in form after bytes) new (session_answer form rules all shown))
line_asked_made_answer done form rules old new shown before after bytes formed none h =
    subst (λ (f : AskForm). OnOk done ((all : Node) → IsEndOf all old → MadeBy (made_in f after bytes) new (session_answer f rules all shown))) (sym formed)
    (line_made done rules old new shown before after bytes none h)

pub event_asked_made_answer : {E : Type 0} (done : Result (Unit {0}) E) (form : AskForm) (rules : Rules) (old new : Node) (shown before after text : List ℕ) → form ≡ Event
    → before ≡ [] → OnOk done (AnswersBy (λ m. event_answer m shown) old before new after)
    → OnOk done ((all : Node) → IsEndOf all old → MadeBy (made_in form text after) new (session_answer form rules all shown))
event_asked_made_answer done form rules old new shown before after text formed none h =
    subst (λ (f : AskForm). OnOk done ((all : Node) → IsEndOf all old → MadeBy (made_in f text after) new (session_answer f rules all shown))) (sym formed)
    (event_made done rules old new shown before after text none h)

pub session_waits_with_answer : (old new : Session) (rules : Rules) (name : ℕ) (before : List AskedOfNode) (form : AskForm) (bytes shown : List ℕ)
    → shown ≡ kept bytes → new.form ≡ form → new.asked.items ≡ shown
    → new.stage ≡ Waits → (speaking new.speaker).rules ≡ (speaking old.speaker).rules
    → ((all : Node) → IsEndOf all (speaking old.speaker).node
    → MadeBy (made_of new) (speaking new.speaker).node (session_answer form (speaking old.speaker).rules all shown))
    → SessionIsReady old rules name before → IsWaiting new rules name before (record { form = form; bytes = bytes })
session_waits_with_answer old new rules name before form bytes shown is formed holds stage same makes r =
    let all = node_behind rules (first_node rules name) before in
    let made = makes all r.node in
    let alike : session_answer form (speaking old.speaker).rules all shown ≡ session_answer form rules all bytes =
    ap (λ (u : Rules). session_answer form u all shown) r.founded ∙ ap (session_answer form rules all) is ∙ cut form rules all bytes in
    record {
      stage = stage;
      form = formed;
      waits = holds ∙ is;
      answer = made.text ∙ ap (λ (a : Answer). a.text) alike;
      founded = same ∙ r.founded;
      node = subst (λ (a : Answer). IsEndOf a.node (speaking new.speaker).node) alike made.end;
    }

-- ---- the same again

abbrev is_ready : SessionStage → Type 0
is_ready Ready = Unit {0}
is_ready Waits = ⊥
is_ready Spent = ⊥

pub waiting_session_waits_again : (s : Session) (rules : Rules) (name : ℕ) (before : List AskedOfNode) (waiting : Option AskedOfNode) (form : AskForm) (bytes : List ℕ)
    → s.stage ≡ Waits → s.form ≡ form → s.asked.items ≡ kept bytes → IsBehind s rules name before waiting
    → IsWaiting s rules name before (record { form = form; bytes = bytes })
waiting_session_waits_again s rules name before None form bytes stage formed same r = absurd (subst is_ready (sym r.stage ∙ stage) tt)
waiting_session_waits_again s rules name before (Some other) form bytes stage formed same w =
    let all = node_behind rules (first_node rules name) before in
    let alike : session_answer other.form rules all other.bytes ≡ session_answer form rules all bytes =
    sym (cut other.form rules all other.bytes) ∙ ap (session_answer other.form rules all) (sym w.waits ∙ same)
    ∙ ap (λ (f : AskForm). session_answer f rules all (kept bytes)) (sym w.form ∙ formed) ∙ cut form rules all bytes in
    record {
      stage = stage;
      form = formed;
      waits = same;
      answer = w.answer ∙ ap (λ (a : Answer). a.text) alike;
      founded = w.founded;
      node = subst (λ (a : Answer). IsEndOf a.node (speaking s.speaker).node) alike w.node;
    }

pub session_waits_after_call : (old new : Session) (rules : Rules) (name : ℕ) (before : List AskedOfNode) (waiting : Option AskedOfNode) (asked : AskedOfNode) → old.stage ≡ Ready
    → (SessionIsReady old rules name before → IsWaiting new rules name before asked) → IsBehind old rules name before waiting → IsWaiting new rules name before asked
session_waits_after_call old new rules name before None asked stage next r = next r
session_waits_after_call old new rules name before (Some other) asked stage next w = absurd (subst is_ready (sym stage ∙ w.stage) tt)

-- ---- the answer is told

pub session_ready_after_answer : (old new : Session) (rules : Rules) (name : ℕ) (before : List AskedOfNode) (asked : AskedOfNode) → new.stage ≡ Ready → new.speaker ≡ old.speaker
    → IsWaiting old rules name before asked → SessionIsReady new rules name (before ++ asked ∷ [])
unfolding node_behind
session_ready_after_answer old new rules name before asked stage same w =
    let first = first_node rules name in
    record {
      stage = stage;
      founded = ap (λ s. (speaking s).rules) same ∙ w.founded;
      node = subst (λ (m : Node). IsEndOf m (speaking new.speaker).node) (sym (behind_more rules first before (asked ∷ [])))
          (subst (λ s. IsEndOf (answer_behind rules name before asked).node (speaking s).node) (sym same) w.node);
    }

pub told_text_written_to_room : (told text copied room : List ℕ) → copied ≡ told → told ≡ text → length told ≤ length room
    → IsWritten text room (copied ++ drop (length told) room) (length told)
told_text_written_to_room told text copied room same is fits = record {
  answer = ap (λ (xs : List ℕ). xs ++ drop (length told) room) same ∙ ap (λ (xs : List ℕ). xs ++ drop (length xs) room) is;
  long = ap length is;
  fits = subst (λ (xs : List ℕ). length xs ≤ length room) is fits;
}
