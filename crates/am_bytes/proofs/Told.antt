-- What an answer spells is read as that answer.
use Rattle.std.proofs.Common.{◌≡◌, ℕ, ◌+◌, ◌^◌, ◌<◌, ◌≤◌, List, [], ◌∷◌, ◌++◌, length, true, false, Bool, refl, sym, ap, ◌∙◌, subst, append_assoc, append-nil, arith}
use Rattle.std.specs.Prelude.{Some, ◌==◌}
use Rattle.std.specs.List.{flat_map}
use Rattle.std.specs.List.{AllByRecursion}
use Rattle.std.proofs.lemmas.List.Elements.{recursion_from_All}
use Rattle.std.proofs.lemmas.Bool.{le-leb, eq-eqb}
use Rattle.byteorder.specs.Endian.{big_bytes, big_number}
use Rattle.byteorder.specs.Numbers.{big_number-reads_back}
use Rattle.am_base.specs.Names.{IsSetOfNames, mask_of_names, lives_of_names}
use Rattle.am_base.proofs.Masks.{places_of_mask_and_lives, mask_and_lives_are_masked, mask_of-lt, lives_of-lt}
use Rattle.am_base.specs.declared.name.Stamp.{Stamp}
use Rattle.am_base.specs.declared.entry.Entry.{Entry}
use Rattle.am_base.specs.declared.entry.Entry.TheVariants as entries
use Rattle.am_base.specs.declared.outcome.Outcome.{Outcome}
use Rattle.am_base.specs.declared.outcome.Outcome.TheVariants as said
use Rattle.am_packet.specs.Boxes.{Letter}
use Rattle.am_packet.specs.Spelling.{stamp_bytes, set_bytes, flag_byte, spelling}
use Rattle.am_packet.proofs.Again.{reading_of_spelling, fields_of_packet_are_short, length-spelling}
use Rattle.am_model.specs.declared.info.Role.{Role}
use Rattle.am_model.specs.declared.info.Role.TheVariants as roles
use Rattle.am_node_lines.specs.declared.line.BadLine.{BadLine}
use Rattle.am_node_lines.specs.declared.line.BadLine.TheVariants.{NoSuchWord, Form, Limit, TooLong}
use Rattle.am_node_lines.specs.Lines.{bad_line_number}
use Rattle.am_node_lines.specs.declared.reply.LineReply.{LineReply}
use Rattle.am_node_lines.specs.declared.reply.LineReply.TheVariants as replies
use Rattle.am_bytes.specs.declared.standing.NodeStanding.{NodeStanding}
use Rattle.am_bytes.specs.Answers.{role_number, flags_of, role_bytes, view_bytes, fronts_bytes, to_bytes, counted_bytes, outcome_kind, outcome_fields, entry_answer_bytes, letter_bytes, letters_bytes, reply_bytes, standing_bytes, answer_bytes}
use Rattle.am_bytes.specs.Reading.{found, byte_from, bytes_from, number_from, stamp_from, set_from, flag_from, entry_from, data_from, view_from, shape_at, made_from, letter_from, letters_from}
use Rattle.am_bytes.specs.Reading.{cause_at, bad_from, did_from, reply_from, role_at, flag_in, standing_from, answer_from}
use Rattle.am_bytes.specs.Laws.{IsWord, HasWords, FitsEntry, FitsOutcome, FitsLetter, FitsReply, FitsStanding, AnswersAreRead}

-- ---- fields

bytes_back : (ys rest : List ℕ) → bytes_from (length ys) (ys ++ rest) ≡ found ys rest
unfolding bytes_from
bytes_back [] rest = refl
bytes_back (y ∷ ys) rest = rw (bytes_back ys rest) refl

number_back : (n x : ℕ) (rest : List ℕ) → length (big_bytes n x) ≡ n → x < 256 ^ n → number_from n (big_bytes n x ++ rest) ≡ found x rest
unfolding number_from
number_back n x rest long fits =
    let read : bytes_from n (big_bytes n x ++ rest) ≡ found (big_bytes n x) rest =
    subst (λ (k : ℕ). bytes_from k (big_bytes n x ++ rest) ≡ found (big_bytes n x) rest) long (bytes_back (big_bytes n x) rest) in
    let value : big_number n (big_bytes n x) ≡ x =
    ap (λ (xs : List ℕ). big_number n xs) (sym (append-nil (big_bytes n x))) ∙ big_number-reads_back n x [] fits in
    rw (read, value) refl

word_back : (n : ℕ) (rest : List ℕ) → IsWord n → number_from 4 (big_bytes 4 n ++ rest) ≡ found n rest
word_back n rest fits = number_back 4 n rest refl fits

flag_back : (flag : Bool) (rest : List ℕ) → flag_from (flag_byte flag ∷ rest) ≡ found flag rest
unfolding flag_from byte_from
flag_back true rest = refl
flag_back false rest = refl

stamp_back : (stamp : Stamp) (rest : List ℕ) → HasWords stamp → stamp_from (stamp_bytes stamp ++ rest) ≡ found stamp rest
unfolding stamp_from byte_from
stamp_back stamp rest fits = rw (word_back stamp.round (stamp.by ∷ rest) fits) refl

set_back : (set rest : List ℕ) → IsSetOfNames set → set_from (set_bytes set ++ rest) ≡ found set rest
unfolding set_from
set_back set rest is =
    let mask_fits : mask_of_names set < 256 ^ 2 = let lt = mask_of-lt set in let lt2 : mask_of_names set < 2 ^ 16 = subst (λ (k : ℕ). mask_of_names set < 2 ^ k) is.places lt in
    lt2 in
    let lives_fits : lives_of_names set < 256 ^ 8 = let lt = lives_of-lt set is in
    let lt2 : lives_of_names set < 16 ^ 16 = subst (λ (k : ℕ). lives_of_names set < 16 ^ k) is.places lt in lt2 in
    rw (
      number_back 2 (mask_of_names set) (big_bytes 8 (lives_of_names set) ++ rest) refl mask_fits,
      number_back 8 (lives_of_names set) rest refl lives_fits,
      mask_and_lives_are_masked set is,
      places_of_mask_and_lives set is,
    ) refl

-- ---- entries and outcomes

entry_back : (entry : Entry) (rest : List ℕ) → FitsEntry entry → entry_from (entry_answer_bytes entry ++ rest) ≡ found entry rest
unfolding entry_from data_from view_from entry_answer_bytes byte_from
entry_back (entries.Data from req body) rest fits =
    rw (
      word_back req (big_bytes 2 (length body) ++ (body ++ rest)) fits.0,
      number_back 2 (length body) (body ++ rest) refl (omega (arith, fits.1)),
      bytes_back body rest,
    ) refl
entry_back (entries.Join name) rest fits = refl
entry_back (entries.Leave name) rest fits = refl
entry_back (entries.View v) rest fits =
    rw (stamp_back v.stamp (set_bytes v.members ++ (v.resilience ∷ rest)) fits.0, set_back v.members (v.resilience ∷ rest) fits.1) refl

outcome_back : (outcome : Outcome) (rest : List ℕ) → FitsOutcome outcome
    → made_from (shape_at (outcome_kind outcome)) (outcome_fields outcome ++ rest) ≡ found outcome rest
unfolding made_from outcome_kind outcome_fields byte_from
outcome_back (said.Queued req) rest fits = rw (word_back req rest fits) refl
outcome_back (said.Busy queued) rest fits = rw (word_back queued rest fits) refl
outcome_back (said.Pending req) rest fits = rw (word_back req rest fits) refl
outcome_back (said.Sent req number) rest fits = rw (word_back req (big_bytes 4 number ++ rest) fits.0, word_back number rest fits.1) refl
outcome_back said.Unknown rest fits = refl
outcome_back (said.Took number entry) rest fits = rw (word_back number (entry_answer_bytes entry ++ rest) fits.0, entry_back entry rest fits.1) refl
outcome_back said.Empty rest fits = refl
outcome_back said.Asked rest fits = refl
outcome_back (said.Joined number) rest fits = rw (word_back number rest fits) refl
outcome_back said.Leaving rest fits = refl
outcome_back said.Departed rest fits = refl
outcome_back said.Stranger rest fits = refl
outcome_back said.NotMember rest fits = refl
outcome_back said.Ticked rest fits = refl
outcome_back said.Idle rest fits = refl
outcome_back (said.PutOff req base top) rest fits = rw (word_back req (big_bytes 4 base ++ (big_bytes 4 top ++ rest)) fits.0, word_back base (big_bytes 4 top ++ rest) fits.1, word_back top rest fits.2) refl
outcome_back (said.Numbered number) rest fits = rw (word_back number rest fits) refl
outcome_back said.Again rest fits = refl
outcome_back (said.Early last) rest fits = rw (word_back last rest fits) refl
outcome_back (said.Held base top) rest fits = rw (word_back base (big_bytes 4 top ++ rest) fits.0, word_back top rest fits.1) refl
outcome_back said.Kept rest fits = refl
outcome_back said.Known rest fits = refl
outcome_back (said.Stored number) rest fits = rw (word_back number rest fits) refl
outcome_back (said.Gap want) rest fits = rw (word_back want rest fits) refl
outcome_back (said.NoBody from req) rest fits = rw (word_back req rest fits) refl
outcome_back said.Behind rest fits = refl
outcome_back said.Unfit rest fits = refl
outcome_back (said.Advanced acc) rest fits = rw (word_back acc rest fits) refl
outcome_back said.Noted rest fits = refl
outcome_back (said.Accepted acc) rest fits = rw (word_back acc rest fits) refl
outcome_back (said.Served count) rest fits = rw (word_back count rest fits) refl
outcome_back (said.Welcomed number) rest fits = rw (word_back number rest fits) refl
outcome_back (said.LetGo number) rest fits = rw (word_back number rest fits) refl
outcome_back said.Elsewhere rest fits = refl
outcome_back (said.Refused cause) rest fits = rw (word_back cause rest fits) refl
outcome_back said.Voted rest fits = refl
outcome_back (said.Newer promise) rest fits = rw (stamp_back promise rest fits) refl
outcome_back (said.Catching want) rest fits = rw (word_back want rest fits) refl
outcome_back (said.Waiting names) rest fits = rw (set_back names rest fits) refl
outcome_back (said.Fetching from want) rest fits = rw (word_back want rest fits) refl
outcome_back (said.TooFew got least) rest fits = rw (word_back got (big_bytes 4 least ++ rest) fits.0, word_back least rest fits.1) refl
outcome_back (said.Crowded base top) rest fits = rw (word_back base (big_bytes 4 top ++ rest) fits.0, word_back top rest fits.1) refl
outcome_back (said.Overtaken by) rest fits = rw (stamp_back by rest fits) refl
outcome_back (said.NotIn best) rest fits = rw (stamp_back best rest fits) refl
outcome_back (said.Decided number members) rest fits = rw (word_back number (set_bytes members ++ rest) fits.0, set_back members rest fits.1) refl
outcome_back said.NotCoordinator rest fits = refl
outcome_back said.Stopped rest fits = refl
outcome_back said.NoPacket rest fits = refl
outcome_back said.NotAddressed rest fits = refl
outcome_back said.IsStopped rest fits = refl
outcome_back said.NotStopped rest fits = refl
outcome_back (said.Occupied name) rest fits = refl
outcome_back (said.Running life) rest fits = rw (word_back life rest fits) refl
outcome_back said.NoLife rest fits = refl
outcome_back (said.Returned life) rest fits = rw (word_back life rest fits) refl

-- ---- letters

letter_back : (letter : Letter) (rest : List ℕ) → FitsLetter letter → letter_from (letter_bytes letter ++ rest) ≡ found letter rest
unfolding letter_from letter_bytes to_bytes counted_bytes
letter_back letter rest fits =
    let spelled = spelling letter.packet in
    let short : length spelled < 256 ^ 2 = omega (arith, length-spelling letter.packet, fields_of_packet_are_short letter.packet fits.1.parts) in
    rw (
      flag_back letter.any (set_bytes letter.to ++ (big_bytes 2 (length spelled) ++ (spelled ++ rest))),
      set_back letter.to (big_bytes 2 (length spelled) ++ (spelled ++ rest)) fits.0,
      number_back 2 (length spelled) (spelled ++ rest) refl short,
      bytes_back spelled rest,
      reading_of_spelling letter.packet fits.1,
    ) refl

letters_back : (letters : List Letter) (rest : List ℕ) → AllByRecursion FitsLetter letters
    → letters_from (length letters) (flat_map letter_bytes letters ++ rest) ≡ found letters rest
unfolding letters_from
letters_back [] rest fits = refl
letters_back (letter ∷ letters) rest fits =
    rw (
      append_assoc (letter_bytes letter) (flat_map letter_bytes letters) rest,
      letter_back letter (flat_map letter_bytes letters ++ rest) fits.0,
      letters_back letters rest fits.1,
    ) refl

-- ---- what came of an event

-- no outcome's kind is that of something else
record IsOutcome (kind : ℕ) : Type 0 where
  looked : (kind == 0) ≡ false
  spent : (kind == 254) ≡ false
  bad : (kind == 255) ≡ false

kind_apart : (outcome : Outcome) → IsOutcome (outcome_kind outcome)
unfolding outcome_kind
kind_apart (said.Queued req) = record { looked = refl; spent = refl; bad = refl }
kind_apart _ = record { looked = refl; spent = refl; bad = refl }

did_back : (outcome : Outcome) (letters : List Letter) (rest : List ℕ) → FitsOutcome outcome → AllByRecursion FitsLetter letters
    → did_from (shape_at (outcome_kind outcome)) (outcome_fields outcome ++ (letters_bytes letters ++ rest)) ≡ found (replies.Did outcome letters) rest
unfolding did_from letters_bytes byte_from
did_back outcome letters rest fits all =
    rw (outcome_back outcome (length letters ∷ (flat_map letter_bytes letters ++ rest)) fits, letters_back letters rest all) refl

cause_back : (cause : BadLine) → cause_at (bad_line_number cause) ≡ Some cause
cause_back NoSuchWord = refl
cause_back Form = refl
cause_back Limit = refl
cause_back TooLong = refl

reply_back : (told : LineReply) (rest : List ℕ) → FitsReply told → reply_from (reply_bytes told ++ rest) ≡ found told rest
unfolding reply_from reply_bytes bad_from byte_from
reply_back (replies.Did outcome letters) rest fits =
    let apart = kind_apart outcome in
    let zero = apart.looked in
    let spent = apart.spent in
    let bad = apart.bad in
    rw (append_assoc (outcome_fields outcome) (letters_bytes letters) rest, zero, spent, bad)
    (did_back outcome letters rest fits.0 (recursion_from_All FitsLetter letters fits.1))
reply_back replies.Info rest fits = refl
reply_back replies.Spent rest fits = refl
reply_back (replies.Bad cause) rest fits = rw (cause_back cause) refl

-- ---- how a node stands

role_back : (role : Role) → role_at (role_number role) ≡ Some role
role_back roles.Stranger = refl
role_back roles.Asking = refl
role_back roles.Member = refl
role_back roles.Sequencer = refl
role_back roles.Coordinator = refl
role_back roles.Departed = refl

record HasFlags (flags : ℕ) (first second third : Bool) : Type 0 where
  one : flag_in flags 1 ≡ first
  two : flag_in flags 2 ≡ second
  four : flag_in flags 4 ≡ third

flags_back : (first second third : Bool) → HasFlags (flags_of first second third) first second third
flags_back true true true = record { one = refl; two = refl; four = refl }
flags_back true true false = record { one = refl; two = refl; four = refl }
flags_back true false true = record { one = refl; two = refl; four = refl }
flags_back true false false = record { one = refl; two = refl; four = refl }
flags_back false true true = record { one = refl; two = refl; four = refl }
flags_back false true false = record { one = refl; two = refl; four = refl }
flags_back false false true = record { one = refl; two = refl; four = refl }
flags_back false false false = record { one = refl; two = refl; four = refl }

standing_back : (s : NodeStanding) (rest : List ℕ) → FitsStanding s → standing_from (standing_bytes s ++ rest) ≡ found s rest
unfolding standing_from standing_bytes role_bytes view_bytes fronts_bytes byte_from
standing_back s rest fits =
    let flags = flags_back s.has_next s.is_sending s.is_leaving in
    let first = flags.one in
    let second = flags.two in
    let third = flags.four in
    let e = set_bytes s.waits_for ++ rest in
    let d = big_bytes 4 s.top ++ e in
    let c = big_bytes 4 s.accepted ++ d in
    let b = big_bytes 4 s.taken ++ c in
    let a = big_bytes 4 s.base ++ b in
    rw (
      role_back s.role,
      stamp_back s.view (big_bytes 4 s.view_number ++ (set_bytes s.members ++ (s.resilience ∷ a))) fits.view,
      word_back s.view_number (set_bytes s.members ++ (s.resilience ∷ a)) fits.view_number,
      set_back s.members (s.resilience ∷ a) fits.members,
      word_back s.base b fits.base,
      word_back s.taken c fits.taken,
      word_back s.accepted d fits.accepted,
      word_back s.top e fits.top,
      set_back s.waits_for rest fits.waits_for,
      first,
      second,
      third,
    ) refl

pub spelled_answers_are_read : AnswersAreRead
unfolding answer_from answer_bytes
spelled_answers_are_read standing told more stands fits =
    rw (
      append_assoc (standing_bytes standing) (reply_bytes told) more,
      standing_back standing (reply_bytes told ++ more) stands,
      reply_back told more fits,
    ) refl
