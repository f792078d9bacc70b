-- opens every definition that a book is decoded, encoded and checked by: an example says `unfolding openBook`
use Rattle.numbers.specs.Open.{open_numbers}
use Rattle.names.specs.Text.{open_text}
use Rattle.names.specs.Name.{open_name}
use Rattle.names.specs.Spelling.{open_spelling}
use Rattle.book.specs.Rule.{find}
use Rattle.book.specs.Entry.{entries, kinds_of, words_of}
use Rattle.book.specs.Kinds.{ty_tags, val_tags, inst_tags, term_tags, ty_tag, val_tag, inst_tag, term_tag}
use Rattle.book.specs.Read.{one, filtered, optional, stops, mapped, both, until, word, closing, list_of, many}
use Rattle.book.specs.Decode.{tys, index_fits, type_as, type_to, value_as, value, typed_val, block, index, align, gep_index, incoming, case, param, item, field, fields, tagged_as, tagged, inst, term, body, basic_block, function, mark_as, mark, body_of, struct_body, struct_type, functions, structs_and_functions, parts, member, distinct, once_each, decode}
use Rattle.book.specs.Encode.{ending, enc_ty, depth, value_entry, enc_param, enc_fields, enc_inst, enc_term, enc_basic_block, enc_function, mark_entry, enc_struct, encode}
use Rattle.book.specs.Shape.{open_shape}
use Rattle.book.specs.Result.{open_result}
use Rattle.book.specs.Input.{open_input}
use Rattle.book.specs.Forbidden.{open_forbidden}
use Rattle.book.specs.Check.{open_check}

unfoldable pub open_book : Unit {0}
unfolding open_numbers open_text open_name open_spelling find entries kinds_of words_of ty_tags val_tags inst_tags term_tags ty_tag val_tag inst_tag term_tag one filtered optional stops mapped both until word closing list_of many tys index_fits type_as type_to value_as value typed_val block index align gep_index incoming case param item field fields tagged_as tagged inst term body basic_block function mark_as mark body_of struct_body struct_type functions structs_and_functions parts member distinct once_each decode ending enc_ty depth value_entry enc_param enc_fields enc_inst enc_term enc_basic_block enc_function mark_entry enc_struct encode open_shape open_result open_input open_forbidden open_check
open_book = tt
