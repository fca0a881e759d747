use Rattle.am_text_laws.proofs.Reread.{number_up_to_gives_decimal, name_of_gives_name_text, bytes_of_gives_body_text}
use Rattle.am_text_laws.proofs.Sets.{names_of_gives_names_text}
use Rattle.am_text_laws.proofs.what_is_read_is_printed.Goals as goal

pub returns : goal.returns
returns c = record { numbers = number_up_to_gives_decimal; names = name_of_gives_name_text; sets = names_of_gives_names_text; bytes = bytes_of_gives_body_text }
