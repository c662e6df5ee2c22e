-- Below its line a fault changes nothing, so the filler goes on from the good row.
use Rattle.std.proofs.Common.{◌≡◌, ◌-◌, ◌≤◌, length, take, ◌∙◌, arith, length-take}
use Rattle.image.specs.Image.{line_count}
use Rattle.rows.proofs.Laws.Prefix.{good_length, resumed}
use Rattle.rows.proofs.prefix.fill_faulty.Goals as goal
use Rattle.rows.proofs.prefix.fill_faulty.Goals.{After-site_of-site}

-- the fault's line is in the rows
inside : (c : After-site_of-site) → c.site_of-site.result ≤ line_count c.args.img.now
inside c = rw c.site_of-site.ensures c.requires.inside

front_of : (c : After-site_of-site) → c.site_of-site.result ≡ length (take c.site_of-site.result c.args.good.now)
front_of c = let a = c.args in simp length-take (omega (arith, good_length a.img.now a.x a.good.now c.requires.good-row, inside c))

pub slice_bounds-copy_from_slice-end : goal.slice_bounds-copy_from_slice-end
slice_bounds-copy_from_slice-end c = front_of (goal.at.slice_bounds-copy_from_slice-end c).After-site_of-site

pub copy_from_slice-requires : goal.copy_from_slice-requires
copy_from_slice-requires c = c.split_at_mut-before.ensures.front_len ∙ front_of (goal.at.copy_from_slice-requires c).After-site_of-site

pub returns : goal.returns
returns c =
    let a = c.args in
    let s = a.img.now in
    let site = c.site_of-site.result in
    let parts = c.split_at_mut-before in
    let rest : length parts.result.1.now ≡ line_count s - site = omega (arith, parts.ensures.back_len, c.requires.long) in
    c.fill.ensures ∙ rw (c.copy_from_slice.ensures.after, rest, c.site_of-site.ensures, c.requires.good-row) (resumed s a.x a.condition c.requires.inside)
