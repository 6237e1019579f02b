-- The session's images, built from their columns, are the bytes of document 01's lines.
-- Both sides are computed.
use mathlib.Core.Path.{◌≡◌, refl}
use mathlib.Core.List.{[], ◌∷◌, flatten, flat_map}
use Rattle.image.specs.Bytes.{number_bytes, ascii}
use Rattle.image.specs.Record.{record_place}
use Rattle.cases.specs.Build.{column, all_beside, image, image_of, buffers_of, records, record_bytes, entries, buffer_entries, placed, field, numbers, stored, masked, bits}
use Rattle.cases.specs.Cases.{session, session_left, session_right, session_line}

pub left_is_line : session_left ≡ session_line (0x05 ∷ 0x00 ∷ 0x07 ∷ 0x05 ∷ [])
unfolding session_line session_left session image image_of number_bytes flatten buffers_of records column flat_map all_beside masked record_bytes numbers field record_place entries stored ascii buffer_entries placed bits
left_is_line = refl

pub right_is_line : session_right ≡ session_line (0x05 ∷ 0x09 ∷ 0x07 ∷ 0x05 ∷ [])
unfolding session_line session_right session image image_of number_bytes flatten buffers_of records column flat_map all_beside masked record_bytes numbers field record_place entries stored ascii buffer_entries placed bits
right_is_line = refl
