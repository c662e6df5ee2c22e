-- The filler goes on from the bytes before.
use Rattle.std.proofs.Common.{◌≡◌, ◌-◌, length, ◌∙◌, arith}
use Rattle.image.specs.Image.{line_count}
use Rattle.rows.specs.Refresh.{refreshed}
use Rattle.rows.proofs.prefix.refresh_from.Goals as goal

pub returns : goal.returns
unfolding refreshed
returns c =
    let parts = c.split_at_mut-before in
    let rest : length parts.result.1.now ≡ line_count c.args.img.now - c.args.line = omega (arith, parts.ensures.back_len, c.requires.1) in
    c.fill.ensures ∙ rw (parts.ensures.front, rest)
