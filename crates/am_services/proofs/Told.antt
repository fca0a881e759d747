-- What is told entry by entry is what the definitions tell.
use Rattle.std.proofs.Common.{◌≡◌, ℕ, List, [], ◌∷◌, ◌++◌, refl, sym, ap, ◌∙◌}
use Rattle.std.specs.List.{fold}
use Rattle.std.proofs.lemmas.List.Sums.{fold-append}
use Rattle.am_base.specs.declared.entry.Entry.{Entry}
use Rattle.std.proofs.lemmas.List.Folds.{fold-map}
use Rattle.am_base.specs.Founding.{Rules}
use Rattle.am_service_defs.specs.Messages.{entries_of}
use Rattle.am_service_defs.specs.Assembling.{no_parts, after_entry}
use Rattle.am_service_defs.proofs.Fold.{messages_assemble}
use Rattle.am_service_defs.specs.Replicas.{fresh_replica}
use Rattle.am_service_defs.proofs.ReplicaLaws.{replicas_show}
use Rattle.am_services.specs.Texts.{ended_line, lines_behind, message_upto, messages_of, start_of, snapshot_at, snapshot_upto, snapshots_of, last_given_number, directory_lines, directory_of}
use Rattle.am_services.specs.Telling.{told, assembled_then, message_told, messages_told, replayed_then, replayed_with, snapshot_told, snapshots_told}
use Rattle.am_service_defs.specs.Replicas.{ReplicaState, shown}

told_behind : {S : Type 0} (next : S → ℕ × Entry → S) (line : ℕ × Entry → S → List ℕ) (s : S) (upto : List (ℕ × Entry) → ℕ × Entry → List ℕ)
    → ((before : List (ℕ × Entry)) (pair : ℕ × Entry) → line pair (fold next s (before ++ pair ∷ [])) ≡ upto (before ++ pair ∷ []) pair)
    → (before given : List (ℕ × Entry)) → told next line (fold next s before) given ≡ lines_behind upto before given
told_behind next line s upto same before [] = refl
told_behind next line s upto same before (pair ∷ rest) =
    let one : fold next s (before ++ pair ∷ []) ≡ next (fold next s before) pair = fold-append next s before (pair ∷ []) in
    let head : line pair (next (fold next s before) pair) ≡ upto (before ++ pair ∷ []) pair = ap (line pair) (sym one) ∙ same before pair in
    let tail : told next line (next (fold next s before) pair) rest ≡ lines_behind upto (before ++ pair ∷ []) rest =
    ap (λ x. told next line x rest) (sym one) ∙ told_behind next line s upto same (before ++ pair ∷ []) rest in
    (λ k. head k ++ tail k)

-- ---- messages

ends_upto : (name : ℕ) (before : List (ℕ × Entry)) (pair : ℕ × Entry)
    → message_told name pair (fold assembled_then no_parts (before ++ pair ∷ [])) ≡ message_upto name (before ++ pair ∷ []) pair
ends_upto name before pair =
    let upto : List (ℕ × Entry) = before ++ pair ∷ [] in
    ap (λ a. ended_line name pair.0 a.ended) (sym (fold-map after_entry (λ (p : ℕ × Entry). p.1) no_parts upto))
    ∙ ap (ended_line name pair.0) (messages_assemble (entries_of upto)).ended

pub messages_told_are_messages_of : (name : ℕ) (given : List (ℕ × Entry)) → messages_told name no_parts given ≡ messages_of (name, given)
unfolding messages_of
messages_told_are_messages_of name given = told_behind assembled_then (message_told name) no_parts (message_upto name) (ends_upto name) [] given

-- ---- directories and snapshots

asks_upto : (name start : ℕ) (before : List (ℕ × Entry)) (pair : ℕ × Entry)
    → snapshot_told name pair (fold replayed_then (fresh_replica start) (before ++ pair ∷ [])) ≡ snapshot_upto name start (before ++ pair ∷ []) pair
asks_upto name start before pair = ap (snapshot_at name pair.0 pair.1) (replicas_show start (before ++ pair ∷ []))

pub snapshots_told_are_snapshots_of : (rules : Rules) (name : ℕ) (given : List (ℕ × Entry))
    → snapshots_told name (fresh_replica (start_of rules (name, given))) given ≡ snapshots_of rules (name, given)
unfolding snapshots_of
snapshots_told_are_snapshots_of rules name given =
    let start = start_of rules (name, given) in
    told_behind replayed_then (snapshot_told name) (fresh_replica start) (snapshot_upto name start) (asks_upto name start) [] given

pub directory_told_is_directory_of : (rules : Rules) (name : ℕ) (given : List (ℕ × Entry)) (s : ReplicaState) (front : ℕ)
    → s ≡ replayed_with (fresh_replica (start_of rules (name, given))) given → front ≡ last_given_number given
    → directory_lines name front (shown s) ≡ directory_of rules (name, given)
unfolding directory_of
directory_told_is_directory_of rules name given s front replayed last =
    (λ k. directory_lines name (last k) (shown (replayed k)))
    ∙ ap (directory_lines name (last_given_number given)) (replicas_show (start_of rules (name, given)) given)
