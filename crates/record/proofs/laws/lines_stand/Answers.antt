use Rattle.record.proofs.Lettered.{line_length, same_line}
use Rattle.record.proofs.Pieces.{by_piece as piece_law}
use Rattle.record.proofs.laws.lines_stand.Goals as goal

pub returns : goal.returns
returns c = record { ten = line_length; apart = same_line; by_piece = piece_law }
