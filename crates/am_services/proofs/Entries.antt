-- The lines of keys, one after the other.
use Rattle.std.proofs.Common.{◌≡◌, ℕ, List, ◌∷◌, ◌++◌, ap, ◌∙◌, append_assoc}
use Rattle.std.specs.List.{flat_map}
use Rattle.am_service_defs.specs.declared.setting.Setting.{Setting}
use Rattle.am_service_defs.specs.Contents.{Contents}
use Rattle.am_services.specs.Texts.{setting_line}

pub key_lines_with_next_key : (name : ℕ) (out next whole : List ℕ) (rest : Contents) (key : List ℕ) (setting : Setting)
    → out ++ flat_map (setting_line name) ((key, setting) ∷ rest) ≡ whole → next ≡ out ++ setting_line name (key, setting)
    → next ++ flat_map (setting_line name) rest ≡ whole
key_lines_with_next_key name out next whole rest key setting so_far more =
    ap (λ t. t ++ flat_map (setting_line name) rest) more ∙ append_assoc out (setting_line name (key, setting)) (flat_map (setting_line name) rest) ∙ so_far
