use Rattle.am_text_laws.proofs.Printed.{number_up_to_decimal, name_of_name_text, names_of_names_text, bytes_of_hex_text}
use Rattle.am_text_laws.proofs.Words.{stamp_of_stamp_text, bytes_of_body_text}
use Rattle.am_text_laws.proofs.what_is_printed_is_read.Goals as goal

pub returns : goal.returns
returns c = search (number_up_to_decimal, name_of_name_text, stamp_of_stamp_text, names_of_names_text, bytes_of_hex_text, bytes_of_body_text)
