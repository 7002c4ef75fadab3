mod AddersCross
mod TasksCross
