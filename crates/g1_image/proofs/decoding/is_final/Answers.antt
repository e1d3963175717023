use Rattle.std.proofs.Common.{◌≡◌, true, false}
use Rattle.g1_image.proofs.Told.{magic_stays, geometry_stays}
use Rattle.g1_image.proofs.decoding.is_final.Goals as goal

pub returns-in-Magic : goal.returns-in-Magic
returns-in-Magic c _ limits bytes more = rw c.in-Magic.is (magic_stays limits bytes more)

pub returns-in-Geometry : goal.returns-in-Geometry
returns-in-Geometry c _ limits bytes more = rw c.in-Geometry.is (geometry_stays {limits = limits} bytes more)

pub returns-in_default : goal.returns-in_default
returns-in_default c = λ t limits bytes more. absurd (let e : false ≡ true = t in cc)
