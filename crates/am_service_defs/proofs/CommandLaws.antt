-- A body is a command exactly where it is that command's bytes.
use Rattle.std.proofs.Common.{◌≡◌, ℕ, ◌≤◌, List, [], ◌∷◌, ◌++◌, Bool, true, false, cond, ◌&&◌, ◌==◌, nat_le, length, take, drop, Option}
use Rattle.std.proofs.Common.{Some, None, refl, sym, ap, ◌∙◌, arith, length-append, append-nil}
use Rattle.std.specs.Option.{option_map}
use Rattle.std.proofs.lemmas.Bool.Decides.{nat_tests}
use Rattle.std.proofs.lemmas.List.{take_at, drop_at}
use Rattle.am_service_defs.specs.Values.{IsKey, IsValue}
use Rattle.am_service_defs.specs.Lengths.{◌>>=◌, Cut, field_bytes, cut_at, field_in}
use Rattle.am_service_defs.specs.Commands.{Command, Put, Delete, Claim, IsCommand, CommandsAreTheirBytes, is_empty, sole, value_in_body, of_kind, command_bytes, command_of}
use Rattle.am_service_defs.proofs.Limits.{bound_option_is_some, mapped_option_is_some, passed_test_of_option, field_read_is_of_bytes, command_read_is_command}

-- ---- what is read is spelled so

pub empty_is_nil : (xs : List ℕ) → is_empty xs ≡ true → xs ≡ []
empty_is_nil [] h = refl
empty_is_nil (x ∷ xs) h = cc

sole_is : (cut : Cut) (field : List ℕ) → sole cut ≡ Some field → (cut.field ≡ field) × (cut.rest ≡ [])
sole_is cut field h =
    let p = passed_test_of_option (is_empty cut.rest) (Some cut.field) field h in
    let same : cut.field ≡ field = cc (p.1) in
    (same, empty_is_nil cut.rest p.0)

value_is : (bytes value : List ℕ) → value_in_body bytes ≡ Some value → bytes ≡ field_bytes value
unfolding value_in_body
value_is bytes value h =
    let b = bound_option_is_some (field_in 0 64 bytes) sole value h in
    let f = field_read_is_of_bytes 0 64 bytes b.0 b.1 in
    let s = sole_is b.0 value b.2 in
    f.same ∙ ap (λ (rest : List ℕ). length b.0.field ∷ (b.0.field ++ rest)) s.1 ∙ ap (λ (x : List ℕ). length b.0.field ∷ x) (append-nil b.0.field)
    ∙ ap (λ (x : List ℕ). length x ∷ x) s.0

eq_true : (a b : ℕ) → (a == b) ≡ true → a ≡ b
eq_true a b h = grind (arith, nat_tests)

kind_is : (kind : ℕ) (bytes : List ℕ) (key : Cut) (command : Command) → bytes ≡ field_bytes key.field ++ key.rest → of_kind kind key ≡ Some command
    → kind ∷ bytes ≡ command_bytes command
unfolding of_kind
kind_is kind bytes key command e h = by (kind == 1) (kind == 2) (kind == 3) refl refl refl h
  where
    spelled : (k : ℕ) → (kind == k) ≡ true → (c : Command) → c ≡ command → k ∷ bytes ≡ command_bytes c → kind ∷ bytes ≡ command_bytes command
    spelled k is c same to = ap (λ (n : ℕ). n ∷ bytes) (eq_true kind k is) ∙ to ∙ ap (λ (x : Command). command_bytes x) same

    with_rest : (rest : List ℕ) → key.rest ≡ rest → bytes ≡ field_bytes key.field ++ rest
    with_rest rest r = e ∙ ap (λ (x : List ℕ). field_bytes key.field ++ x) r

    by : (one two three : Bool) → (kind == 1) ≡ one → (kind == 2) ≡ two → (kind == 3) ≡ three → cond one (option_map (Put key.field) (value_in_body key.rest))
        (cond two (option_map Delete (sole key)) (cond three (option_map (Claim key.field) (value_in_body key.rest)) None)) ≡ Some command
        → kind ∷ bytes ≡ command_bytes command
    by true two three is1 is2 is3 h =
        let m = mapped_option_is_some (value_in_body key.rest) (Put key.field) command h in
        spelled 1 is1 (Put key.field m.0) m.2 (ap (λ (x : List ℕ). 1 ∷ x) (with_rest (field_bytes m.0) (value_is key.rest m.0 m.1)))
    by false true three is1 is2 is3 h =
        let m = mapped_option_is_some (sole key) Delete command h in
        let s = sole_is key m.0 m.1 in
        spelled 2 is2 (Delete m.0) m.2 (ap (λ (x : List ℕ). 2 ∷ x) (with_rest [] s.1 ∙ append-nil (field_bytes key.field)
        ∙ ap (λ (x : List ℕ). field_bytes x) s.0))
    by false false true is1 is2 is3 h =
        let m = mapped_option_is_some (value_in_body key.rest) (Claim key.field) command h in
        spelled 3 is3 (Claim key.field m.0) m.2 (ap (λ (x : List ℕ). 3 ∷ x) (with_rest (field_bytes m.0) (value_is key.rest m.0 m.1)))
    by false false false is1 is2 is3 h = cc

command_is : (body : List ℕ) (command : Command) → command_of body ≡ Some command → body ≡ command_bytes command
unfolding command_of
command_is [] command h = cc
command_is (kind ∷ bytes) command h =
    let b = bound_option_is_some (field_in 1 32 bytes) (of_kind kind) command h in
    kind_is kind bytes b.0 command (field_read_is_of_bytes 1 32 bytes b.0 b.1).same b.2

-- ---- what is spelled so is read

cut_reads : (field rest : List ℕ) → cut_at (length field) (field ++ rest) ≡ Some (record { field = field; rest = rest })
unfolding cut_at
cut_reads field rest =
    let long : length field ≤ length (field ++ rest) = omega (arith, length-append field rest) in
    let test : nat_le (length field) (length (field ++ rest)) ≡ true = grind (arith, nat_tests) in
    ap (λ (b : Bool). cond b (Some (record { field = take (length field) (field ++ rest); rest = drop (length field) (field ++ rest) })) None) test
    ∙ ap (λ (f : List ℕ). Some (record { field = f; rest = drop (length field) (field ++ rest) })) (take_at field rest (length field) refl)
    ∙ ap (λ (r : List ℕ). Some (record { field = field; rest = r })) (drop_at field rest (length field) refl)

pub field_in_of_written_field : (least most : ℕ) (field rest : List ℕ) → least ≤ length field → length field ≤ most
    → field_in least most (field_bytes field ++ rest) ≡ Some (record { field = field; rest = rest })
unfolding field_in
field_in_of_written_field least most field rest above below =
    let test : (nat_le least (length field) && nat_le (length field) most) ≡ true = grind (arith, nat_tests) in
    ap (λ (b : Bool). cond b (cut_at (length field) (field ++ rest)) None) test ∙ cut_reads field rest

value_reads : (value : List ℕ) → IsValue value → value_in_body (field_bytes value) ≡ Some value
unfolding value_in_body
value_reads value short =
    ap (λ (x : List ℕ). field_in 0 64 x >>= sole) (sym (append-nil (field_bytes value)))
    ∙ ap (λ (o : Option Cut). o >>= sole) (field_in_of_written_field 0 64 value [] (omega arith) short)

kind_reads : (command : Command) (kind : ℕ) (key : Cut) (bytes : List ℕ) → command_bytes command ≡ kind ∷ bytes
    → bytes ≡ field_bytes key.field ++ key.rest → IsKey key.field
    → of_kind kind key ≡ Some command → command_of (command_bytes command) ≡ Some command
unfolding command_of
kind_reads command kind key bytes e spelled is_key reads =
    ap (λ (x : List ℕ). command_of x) e ∙ ap (λ (x : List ℕ). field_in 1 32 x >>= of_kind kind) spelled
    ∙ ap (λ (o : Option Cut). o >>= of_kind kind) (field_in_of_written_field 1 32 key.field key.rest is_key.some is_key.few) ∙ reads

command_reads : (command : Command) → IsCommand command → command_of (command_bytes command) ≡ Some command
unfolding of_kind
command_reads (Put key value) within =
    kind_reads (Put key value) 1 (record { field = key; rest = field_bytes value }) (field_bytes key ++ field_bytes value) refl refl within.0
    (ap (λ (o : Option (List ℕ)). option_map (Put key) o) (value_reads value within.1))
command_reads (Delete key) within =
    kind_reads (Delete key) 2 (record { field = key; rest = [] }) (field_bytes key) refl (sym (append-nil (field_bytes key))) within refl
command_reads (Claim key value) within =
    kind_reads (Claim key value) 3 (record { field = key; rest = field_bytes value }) (field_bytes key ++ field_bytes value) refl refl within.0
    (ap (λ (o : Option (List ℕ)). option_map (Claim key) o) (value_reads value within.1))

pub commands_are_their_own_bytes : CommandsAreTheirBytes
commands_are_their_own_bytes body command = (
  λ read. (command_is body command read, command_read_is_command body command read),
  λ is. ap (λ (x : List ℕ). command_of x) is.0 ∙ command_reads command is.1,
)
